-- What a stored book keeps, of document 02, change 2: a book whose carriages are 0 has the divisions, costs and award of its curves alone.
use Rattle.std.specs.Prelude.{ℕ, List, ◌↔◌, ◌≡◌}
use Rattle.book.specs.Entries.{BookEntries}
use Rattle.supply.specs.Supply.{supplies_of}
use Rattle.supply.specs.Curve.{curves_of}
use Rattle.supply.specs.Allocation.{cost_of}
use Rattle.divisions.specs.Division.{Division}
use Rattle.divisions.specs.Award.{award_of, award_of_book}

pub record ByCurves (b : BookEntries) : Type 0 where
  pub divisions : (rs : List ℕ) → Division b.order (supplies_of b.bids) rs ↔ Division b.order (curves_of b.bids) rs
  pub costs : (rs : List ℕ) → cost_of (supplies_of b.bids) rs ≡ cost_of (curves_of b.bids) rs
  pub award : award_of_book b ≡ award_of b.order (curves_of b.bids)
