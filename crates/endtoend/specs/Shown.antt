-- What a text shows of an award: no more than its demand, what is bought, its total and the rows of its bids, as the sheet and the page do.
use Rattle.std.specs.Prelude.{ℕ, List, ◌≡◌}
use Rattle.award.specs.declared.Award.{Award}
use Rattle.awardtheorems.specs.Awarded.{rows_of}

-- two records that agree in these have the same text
abbrev pub ShowsRowsOnly : (Award → List ℕ) → Type 0
ShowsRowsOnly text =
    (x y : Award) → x.demand.0 ≡ y.demand.0 → x.bought.0 ≡ y.bought.0 → x.total.0 ≡ y.total.0 → rows_of x ≡ rows_of y → text x ≡ text y
