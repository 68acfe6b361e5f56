-- A cleared book with allowance 0 in the words of before (document 02, change 5): what its record says is bought, its award, and its totals
-- without a bidder.
use Rattle.std.specs.Prelude.{ℕ, ◌<◌, List, ◌≡◌}
use Rattle.book.specs.Entries.{BookEntries}
use Rattle.supply.specs.Supply.{supplies_of}
use Rattle.divisions.specs.Award.{Priced}
use Rattle.divisions.specs.Before.{DivisionBefore, IsAwardBefore}
use Rattle.award.specs.declared.Total.{Total}
use Rattle.award.specs.declared.Total.TheVariants.{Amount, Nothing}
use Rattle.award.specs.declared.Award.{Award}
use Rattle.without.specs.Without.{book_without}
use Rattle.awardtheorems.specs.Awarded.{row_at, awarded}

abbrev pub DivisionOfBefore : BookEntries → List ℕ → Type 0
DivisionOfBefore b rs = DivisionBefore b.order.demand.0 (supplies_of b.bids) rs

abbrev pub IsAwardOfBefore : BookEntries → Priced → Type 0
IsAwardOfBefore b award = IsAwardBefore b.order.demand.0 (supplies_of b.bids) award

-- a total: the price of the award, and `none` exactly when there is no division
abbrev pub TotalOfBefore : BookEntries → Total → Type 0
TotalOfBefore b (Amount cents) = (award : Priced) × IsAwardOfBefore b award × (award.cost ≡ cents.0)
TotalOfBefore b Nothing = (rs : List ℕ) → DivisionOfBefore b rs → ⊥

pub record ClearedBefore (b : BookEntries) (a : Award) : Type 0 where
  pub bought : a.bought.0 ≡ b.order.demand.0
  pub award : IsAwardOfBefore b (awarded a)
  pub without : (i : ℕ) → i < b.count → TotalOfBefore (book_without i b) (row_at a i).without
