-- What an order with allowance 0 keeps (document 02, change 5: "With allowance 0 awards are those of before"). Before that change a division
-- added up to the demand, and the award was fixed by these words of demand 3, without a word on blanks.
use Rattle.std.specs.Prelude.{ℕ, List, ◌⊎◌, ◌↔◌, ◌≡◌, ◌<ℤ◌}
use Rattle.std.proofs.Math.Option.{some, none}
use Rattle.book.specs.declared.Segment.{Segment}
use Rattle.book.specs.declared.Order.{Order}
use Rattle.supply.specs.Allocation.{bought, cost_of}
use Rattle.divisions.specs.Division.{Allocation, Division}
use Rattle.divisions.specs.Award.{Priced, award_of}
use Rattle.divisions.specs.IsAward.{GivesLess}

pub record DivisionBefore (demand : ℕ) (supplies : List (List Segment)) (rs : List ℕ) : Type 0 where
  pub allocation : Allocation supplies rs
  pub sum : bought rs ≡ demand

-- the award is a division, at its cost, and every other one costs more, or costs the same and gives less to the first bidder at whom the two
-- differ
pub record IsAwardBefore (demand : ℕ) (supplies : List (List Segment)) (award : Priced) : Type 0 where
  pub division : DivisionBefore demand supplies award.quantities
  pub cost : award.cost ≡ cost_of supplies award.quantities
  pub others : (rs : List ℕ) → DivisionBefore demand supplies rs
      → (rs ≡ award.quantities)
      ⊎ ((award.cost <ℤ cost_of supplies rs) ⊎ ((cost_of supplies rs ≡ award.cost) × GivesLess rs award.quantities))

-- the divisions, the award, and that there is none, are those of before; what is bought is the demand
pub record AsBefore (order : Order) (supplies : List (List Segment)) : Type 0 where
  pub divisions : (rs : List ℕ) → Division order supplies rs ↔ DivisionBefore order.demand.0 supplies rs
  pub award : (award : Priced) → (award_of order supplies ≡ some award)
      ↔ (IsAwardBefore order.demand.0 supplies award × (award.blanks ≡ order.demand.0))
  pub none : (award_of order supplies ≡ none) ↔ ((rs : List ℕ) → DivisionBefore order.demand.0 supplies rs → ⊥)
