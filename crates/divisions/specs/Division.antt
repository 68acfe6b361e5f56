-- Document 01's allocation and division, section "Price and allocation", of bidders with these supply functions, in book order,
-- the division as document 02, change 5, has it.
use Rattle.std.specs.Prelude.{ℕ, true, List, [], ◌∷◌, ◌≡◌}
use Rattle.book.specs.declared.Segment.{Segment}
use Rattle.book.specs.declared.Order.{Order}
use Rattle.supply.specs.Supply.{offers}
use Rattle.supply.specs.Allocation.{bought}
use Rattle.supply.specs.Meets.{meets}

-- an allocation gives each bidder 0 or a quantity on one of its segments (0 is on segment 0)
abbrev pub Allocation : List (List Segment) → List ℕ → Type 0
Allocation [] [] = Unit {0}
Allocation [] (r ∷ rs) = ⊥
Allocation (ss ∷ supplies) [] = ⊥
Allocation (ss ∷ supplies) (r ∷ rs) = (offers ss r ≡ true) × Allocation supplies rs

-- a division is an allocation whose quantities add up to at least the demand and at most demand plus allowance
pub record Division (order : Order) (supplies : List (List Segment)) (rs : List ℕ) : Type 0 where
  pub allocation : Allocation supplies rs
  pub sum : meets order (bought rs) ≡ true
