-- The listing has exactly the divisions. Assumes nothing.
use Prim.Native.Nat.{ℕ, zero, suc, ◌≤◌}
use native.Mathlib.Omega.{arith}
use mathlib.Core.List.Memᴰ
use mathlib.Core.List.Memᴰ.{head as here}
use mathlib.Core.List.Memᴰ.{tail as there}
use mathlib.Core.List.{List, [], ◌∷◌, map, Memᴰ as In}
use mathlib.Core.Logic.{◌↔◌, ⊎_elim}
use mathlib.Core.Path.{◌≡◌, refl, sym, subst}
use Rattle.lists.specs.Those.{those}
use Rattle.lists.proofs.Members.{in_map, map_in, in_joined, joined_in, in_those, those_in}
use Rattle.book.specs.declared.Segment.{Segment}
use Rattle.book.specs.declared.Order.{Order}
use Rattle.supply.specs.Supply.{offers}
use Rattle.supply.specs.Allocation.{bought}
use Rattle.supply.specs.Meets.{most_of, meets}
use Rattle.supply.proofs.Orders.{meets_high}
use Rattle.divisions.specs.Division.{Allocation, Division}
use Rattle.divisions.specs.Listing.{down_from, allocations, divisions}
use Rattle.divisions.proofs.Signed.{order}

in_down : (n r : ℕ) → r ≤ n → In r (down_from n)
unfolding down_from
in_down zero r h = let e : r ≡ 0 = omega arith in here e
in_down (suc n) r h = ⊎_elim (λ k. there (in_down n r (omega arith))) (⊎_elim (λ k. here k) (λ k. absurd (omega arith))) (order r (suc n))

-- no bidder gets more than all together
abbrev AtMost : ℕ → List ℕ → Type 0
AtMost most [] = Unit {0}
AtMost most (r ∷ rs) = (r ≤ most) × AtMost most rs

at_most : (most : ℕ) (rs : List ℕ) → bought rs ≤ most → AtMost most rs
unfolding bought
at_most most [] h = tt
at_most most (r ∷ rs) h = (omega arith, at_most most rs (omega arith))

allocation_in : (most : ℕ) (supplies : List (List Segment)) (rs : List ℕ) → Allocation supplies rs → AtMost most rs → In rs (allocations most supplies)
unfolding allocations
allocation_in most [] (r ∷ rs) a l = elim a [ ]
allocation_in most (ss ∷ supplies) [] a l = elim a [ ]
allocation_in most [] [] a l = here refl
allocation_in most (ss ∷ supplies) (r ∷ rs) a l =
    in_joined (λ (q : ℕ). map (λ (qs : List ℕ). q ∷ qs) (allocations most supplies)) (those (offers ss) (down_from most)) r (r ∷ rs)
    (in_those (offers ss) (down_from most) r (in_down most r l.0) a.0)
    (in_map (λ (qs : List ℕ). r ∷ qs) (allocations most supplies) rs (allocation_in most supplies rs a.1 l.1))

in_allocation : (most : ℕ) (supplies : List (List Segment)) (rs : List ℕ) → In rs (allocations most supplies) → Allocation supplies rs
unfolding allocations
in_allocation most [] rs h = rw (Memᴰ.eq_of_singleton h) tt
in_allocation most (ss ∷ supplies) rs h =
    let (r, m, k) = joined_in (λ (q : ℕ). map (λ (qs : List ℕ). q ∷ qs) (allocations most supplies)) (those (offers ss) (down_from most)) rs h in
    let (qs, n, e) = map_in (λ (qs : List ℕ). r ∷ qs) (allocations most supplies) rs k in
    subst (Allocation (ss ∷ supplies)) (sym e) ((those_in (offers ss) (down_from most) r m).1, in_allocation most supplies qs n)

pub listed_iff : (order : Order) (supplies : List (List Segment)) (rs : List ℕ) → In rs (divisions order supplies) ↔ Division order supplies rs
unfolding divisions
listed_iff order supplies rs = (
  λ h. let (m, e) = those_in (λ (qs : List ℕ). meets order (bought qs)) (allocations (most_of order) supplies) rs h in
      record { allocation = in_allocation (most_of order) supplies rs m; sum = e },
  λ d. in_those (λ (qs : List ℕ). meets order (bought qs)) (allocations (most_of order) supplies) rs
      (allocation_in (most_of order) supplies rs d.allocation (at_most (most_of order) rs (meets_high order (bought rs) d.sum)))
      d.sum,
)
