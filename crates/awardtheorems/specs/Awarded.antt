-- What an award says is sold: the quantities of its rows, what is bought, and the total.
use Rattle.std.specs.Prelude.{ℕ, List, map, take, get_or}
use Rattle.divisions.specs.Award.{Priced}
use Rattle.award.specs.declared.Row.{Row}
use Rattle.award.specs.declared.Award.{Award}
use Rattle.award.specs.Award.{no_row}

-- the rows of the bids, in book order
abbrev pub rows_of : Award → List Row
rows_of a = take a.count a.rows

abbrev pub row_at : Award → ℕ → Row
row_at a i = get_or a.rows i no_row

abbrev pub awarded : Award → Priced
awarded a = record { cost = a.total.0; blanks = a.bought.0; quantities = map (λ (row : Row). row.quantity.0) (rows_of a) }
