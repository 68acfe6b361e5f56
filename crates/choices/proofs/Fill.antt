-- The extras of a choice are a point of its box, and add up to what there is to give. Assumes nothing.
use Prim.Native.Nat.{ℕ, ◌+◌, ◌*◌, ◌-◌, ◌≤◌, ◌<◌}
use native.Mathlib.Omega.{arith}
use mathlib.Core.Bool.{Bool, true, false, cond}
use mathlib.Core.List.{List, [], ◌∷◌}
use mathlib.Core.Logic.{◌⊎◌, inl, inr}
use mathlib.Core.Path.{◌≡◌, refl}
use borrow.Author.Tests.{leb-true, leb-false}
use lib.Dec.{leb}
use lib.IntN.{nat_abs}
use Rattle.book.specs.declared.Segment.{Segment}
use Rattle.book.specs.Rules.{price_on}
use Rattle.supply.specs.Allocation.{bought}
use Rattle.choices.specs.Choice.{width, width_at, cheaper, extra, extras}

-- the price at a segment's start, which is not negative
unfoldable pub base : Segment → ℕ
base s = nat_abs (price_on s s.start.0)

-- what a choice can take over its starts
abbrev pub widths : List Segment → ℕ
widths [] = 0
widths (s ∷ c) = width s + widths c

-- what the quantities with these extras cost
abbrev pub cost : List Segment → List ℕ → ℕ
cost [] xs = 0
cost (s ∷ c) [] = 0
cost (s ∷ c) (x ∷ xs) = base s + s.unit.0 * x + cost c xs

-- the box of a choice: an extra for each bidder, at most its width
abbrev pub Box : List Segment → List ℕ → Type 0
Box [] [] = Unit {0}
Box [] (x ∷ xs) = ⊥
Box (s ∷ c) [] = ⊥
Box (s ∷ c) (x ∷ xs) = (x ≤ width s) × Box c xs

-- ys gives less than xs to the first bidder, the last of the list, at whom the two differ
abbrev pub Less : List ℕ → List ℕ → Type 0
Less [] xs = ⊥
Less (y ∷ ys) [] = ⊥
Less (y ∷ ys) (x ∷ xs) = Less ys xs ⊎ ((ys ≡ xs) × (y < x))

-- xs costs less than ys; or it costs the same and takes less; or as much, and is ys or gives more to the first bidder at whom the two differ
abbrev pub Wins : List Segment → List ℕ → List ℕ → Type 0
Wins c xs ys =
    (cost c xs < cost c ys)
    ⊎ ((cost c xs ≡ cost c ys) × ((bought xs < bought ys) ⊎ ((bought xs ≡ bought ys) × ((ys ≡ xs) ⊎ Less ys xs))))

-- how much of a segment counts at a unit price: all of it, or nothing
abbrev pub Counts : ℕ → Segment → Type 0
Counts u s = ((s.unit.0 ≤ u) × (width_at u s ≡ width s)) ⊎ ((u < s.unit.0) × (width_at u s ≡ 0))

pub counts : (u : ℕ) (s : Segment) → Counts u s
counts u s = go (leb s.unit.0 u) refl
  where
    go : (t : Bool) → leb s.unit.0 u ≡ t → ((s.unit.0 ≤ u) × (cond t (width s) 0 ≡ width s)) ⊎ ((u < s.unit.0) × (cond t (width s) 0 ≡ 0))
    go true e = inl (leb-true s.unit.0 u e, refl)
    go false e = inr (leb-false s.unit.0 u e, refl)

cheaper_widths : (u : ℕ) (c : List Segment) → cheaper u c ≤ widths c
cheaper_widths u [] = omega arith
cheaper_widths u (s ∷ c) = go (counts u s) (cheaper_widths u c)
  where
    go : Counts u s → cheaper u c ≤ widths c → cheaper u (s ∷ c) ≤ widths (s ∷ c)
    go (inl h) l = omega arith
    go (inr h) l = omega arith

-- more counts at a higher unit price
pub cheaper_mono : (u v : ℕ) (c : List Segment) → u ≤ v → cheaper u c ≤ cheaper v c
cheaper_mono u v [] h = omega arith
cheaper_mono u v (s ∷ c) h = go (counts u s) (counts v s) (cheaper_mono u v c h)
  where
    go : Counts u s → Counts v s → cheaper u c ≤ cheaper v c → cheaper u (s ∷ c) ≤ cheaper v (s ∷ c)
    go (inl k) (inl m) l = omega arith
    go (inl k) (inr m) l = omega arith
    go (inr k) m l = omega arith

-- where there is no more to give than the choice can take, all of it is given
pub extras_bought : (left : ℕ) (c : List Segment) → left ≤ widths c → bought (extras left c) ≡ left
unfolding bought
extras_bought left [] h = omega arith
extras_bought left (s ∷ c) h =
    let l : cheaper s.unit.0 c ≤ widths c = cheaper_widths s.unit.0 c in
    omega (arith, extras_bought (left - extra left s c) c (omega arith))

pub extras_box : (left : ℕ) (c : List Segment) → Box c (extras left c)
extras_box left [] = tt
extras_box left (s ∷ c) = (omega arith, extras_box (left - extra left s c) c)

pub box_widths : (c : List Segment) (ys : List ℕ) → Box c ys → bought ys ≤ widths c
unfolding bought
box_widths [] (y ∷ ys) b = elim b [ ]
box_widths (s ∷ c) [] b = elim b [ ]
box_widths [] [] b = omega arith
box_widths (s ∷ c) (y ∷ ys) b = omega (arith, box_widths c ys b.1)
