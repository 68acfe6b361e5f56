-- Every division, listed. It is never evaluated; that it has exactly the divisions is the theorem `listed_iff` (proofs/Listed.antt).
use Rattle.std.specs.Prelude.{ℕ, zero, suc, List, [], ◌∷◌, map}
use Rattle.lists.specs.Joined.{joined}
use Rattle.lists.specs.Those.{those}
use Rattle.book.specs.declared.Segment.{Segment}
use Rattle.book.specs.declared.Order.{Order}
use Rattle.supply.specs.Supply.{offers}
use Rattle.supply.specs.Allocation.{bought}
use Rattle.supply.specs.Meets.{most_of, meets}

-- the numbers from n down to 0
unfoldable pub down_from : ℕ → List ℕ
down_from zero = 0 ∷ []
down_from (suc n) = suc n ∷ down_from n

-- every allocation that gives no bidder more than `most`
unfoldable pub allocations : ℕ → List (List Segment) → List (List ℕ)
allocations most [] = [] ∷ []
allocations most (ss ∷ supplies) = joined (λ r. map (λ (rs : List ℕ). r ∷ rs) (allocations most supplies)) (those (offers ss) (down_from most))

-- those whose quantities add up to at least the demand and at most demand plus allowance
unfoldable pub divisions : Order → List (List Segment) → List (List ℕ)
divisions order supplies = those (λ rs. meets order (bought rs)) (allocations (most_of order) supplies)
