-- Bidders who offer the same quantities at other prices: their divisions are the same, and what these cost compares as the prices do. Assumes
-- nothing.
use Prim.Native.Nat.{ℕ, zero, suc, ◌*◌}
use mathlib.Core.List.{List, [], ◌∷◌}
use mathlib.Core.Logic.{◌↔◌}
use mathlib.Core.Path.{◌≡◌, sym, ap, ap₂, ◌∙◌}
use lib.IntN.{pos, ◌+ℤ◌, +ℤ_assoc}
use lib.ListN.{get_or}
use lib.Signed.{◌≤ℤ◌, ≤ℤ_refl}
use Rattle.lists.specs.Pairwise.{Pairwise, ChangedAt}
use Rattle.book.specs.declared.Segment.{Segment}
use Rattle.book.specs.declared.Order.{Order}
use Rattle.supply.specs.Supply.{offers, price_at}
use Rattle.supply.specs.Allocation.{cost_of}
use Rattle.supply.proofs.Compared.{ComparedSupply}
use Rattle.divisions.specs.Division.{Allocation, Division}
use Rattle.divisions.proofs.AtMost.{most_sum}
use Rattle.pricechanges.proofs.Prices.{Above, AtMost, last_two}

abbrev pub SameOffers : List Segment → List Segment → Type 0
SameOffers ss ss' = (r : ℕ) → offers ss' r ≡ offers ss r

same_allocations : (supplies supplies' : List (List Segment)) → Pairwise SameOffers supplies supplies' → (rs : List ℕ)
    → Allocation supplies rs ↔ Allocation supplies' rs
same_allocations [] [] same rs = (λ a. a, λ a. a)
same_allocations [] (ss' ∷ supplies') same rs = elim same [ ]
same_allocations (ss ∷ supplies) [] same rs = elim same [ ]
same_allocations (ss ∷ supplies) (ss' ∷ supplies') same [] = (λ a. a, λ a. a)
same_allocations (ss ∷ supplies) (ss' ∷ supplies') same (r ∷ rs) =
    let (to, from) = same_allocations supplies supplies' same.1 rs in
    (λ a. (same.0 r ∙ a.0, to a.1), λ a. (sym (same.0 r) ∙ a.0, from a.1))

pub same_divisions : (order : Order) (supplies supplies' : List (List Segment)) → Pairwise SameOffers supplies supplies' → (rs : List ℕ)
    → Division order supplies rs ↔ Division order supplies' rs
same_divisions order supplies supplies' same rs =
    let (to, from) = same_allocations supplies supplies' same rs in
    (λ d. record { allocation = to d.allocation; sum = d.sum }, λ d. record { allocation = from d.allocation; sum = d.sum })

-- each bidder asks no more
pub costs_no_more : (supplies supplies' : List (List Segment)) → Pairwise (ComparedSupply AtMost) supplies supplies' → (rs : List ℕ)
    → Allocation supplies rs → cost_of supplies rs ≤ℤ cost_of supplies' rs
unfolding cost_of
costs_no_more [] [] c rs a = ≤ℤ_refl _
costs_no_more [] (ss' ∷ supplies') c rs a = elim c [ ]
costs_no_more (ss ∷ supplies) [] c rs a = elim c [ ]
costs_no_more (ss ∷ supplies) (ss' ∷ supplies') c [] a = elim a [ ]
costs_no_more (ss ∷ supplies) (ss' ∷ supplies') c (r ∷ rs) a =
    most_sum (price_at ss r) (price_at ss' r) (cost_of supplies rs) (cost_of supplies' rs) (c.0.price r a.0) (costs_no_more supplies supplies' c.1 rs a.1)

-- one bidder asks so many cents less for each blank
pub costs_less : (cents i : ℕ) (supplies supplies' : List (List Segment)) → ChangedAt i (ComparedSupply (Above cents)) supplies supplies' → (rs : List ℕ)
    → Allocation supplies rs → cost_of supplies rs ≡ cost_of supplies' rs +ℤ pos (cents * get_or rs i 0)
unfolding cost_of
costs_less cents zero (ss ∷ supplies) (ss' ∷ supplies') c (r ∷ rs) a =
    ap₂ ◌+ℤ◌ (c.0.price r a.0) (ap (λ (l : List (List Segment)). cost_of l rs) c.1)
    ∙ last_two (price_at ss' r) (pos (cents * r)) (cost_of supplies' rs)
costs_less cents zero [] _ c rs a = elim c [ ]
costs_less cents zero (ss ∷ supplies) [] c rs a = elim c [ ]
costs_less cents zero (ss ∷ supplies) (ss' ∷ supplies') c [] a = elim a [ ]
costs_less cents (suc i) [] _ c rs a = elim c [ ]
costs_less cents (suc i) (ss ∷ supplies) [] c rs a = elim c [ ]
costs_less cents (suc i) (ss ∷ supplies) (ss' ∷ supplies') c [] a = elim a [ ]
costs_less cents (suc i) (ss ∷ supplies) (ss' ∷ supplies') c (r ∷ rs) a =
    ap₂ ◌+ℤ◌ (ap (λ (l : List Segment). price_at l r) c.0) (costs_less cents i supplies supplies' c.1 rs a.1)
    ∙ sym (+ℤ_assoc (price_at ss' r) (cost_of supplies' rs) (pos (cents * get_or rs i 0)))
