-- Dominance: where every division of one order has one of another that costs no more, its award costs no less than the other's. Assumes nothing.
use Prim.Native.Nat.{ℕ}
use mathlib.Core.List.{List}
use mathlib.Core.Logic.{◌⊎◌, inl, inr}
use mathlib.Core.Path.{◌≡◌, sym, ap, ◌∙◌, subst}
use lib.IntN.{ℤ}
use lib.Signed.{◌≤ℤ◌}
use Rattle.book.specs.declared.Segment.{Segment}
use Rattle.book.specs.declared.Order.{Order}
use Rattle.supply.specs.Allocation.{cost_of}
use Rattle.divisions.specs.Division.{Division}
use Rattle.divisions.specs.Award.{Priced}
use Rattle.divisions.specs.IsAward.{Worse, IsAward}
use Rattle.divisions.specs.NoDearer.{NoDearer}
use Rattle.divisions.proofs.AtMost.{same_most, less_most, most_trans}

-- no division costs less than the award
pub cheapest : (order : Order) (supplies : List (List Segment)) (award : Priced) → IsAward order supplies award → (rs : List ℕ) → Division order supplies rs
    → award.cost ≤ℤ cost_of supplies rs
cheapest order supplies award is rs d = go (is.others rs d)
  where
    go : (rs ≡ award.quantities) ⊎ Worse supplies rs award → award.cost ≤ℤ cost_of supplies rs
    go (inl e) = same_most award.cost (cost_of supplies rs) (is.cost ∙ ap (cost_of supplies) (sym e))
    go (inr (inl h)) = less_most award.cost (cost_of supplies rs) h
    go (inr (inr h)) = same_most award.cost (cost_of supplies rs) (sym h.0)

module _ (order : Order) (supplies : List (List Segment)) (order' : Order) (supplies' : List (List Segment)) (no-dearer : NoDearer order supplies order' supplies') where
  -- where this one has no division, the other has none
  pub dominance_none : ((xs : List ℕ) → Division order supplies xs → ⊥) → (rs : List ℕ) → Division order' supplies' rs → ⊥
  dominance_none uncovered rs d = let (xs, e, l) = no-dearer rs d in uncovered xs e

  pub dominance : (award award' : Priced) → IsAward order supplies award → IsAward order' supplies' award' → award.cost ≤ℤ award'.cost
  dominance award award' is is' =
      let (xs, d, l) = no-dearer award'.quantities is'.division in
      most_trans award.cost (cost_of supplies xs) award'.cost (cheapest order supplies award is xs d)
      (subst (λ (z : ℤ). cost_of supplies xs ≤ℤ z) (sym is'.cost) l)
