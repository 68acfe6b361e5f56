-- Where quantities give more than the ends of a choice to the first bidder at whom they differ, they give more than every division of it.
-- Assumes nothing.
use Prim.Native.Nat.{ℕ, zero, suc, ◌+◌, ◌≤◌, ◌<◌}
use native.Mathlib.Decide.{dec_lt}
use native.Mathlib.Omega.{arith}
use mathlib.Core.Bool.{true, false≢true}
use mathlib.Core.List.{List, [], ◌∷◌, reverse_aux}
use mathlib.Core.Logic.{◌⊎◌, inl, inr}
use mathlib.Core.Path.{◌≡◌}
use lib.ListN.{length, take}
use Rattle.lists.specs.All.{All}
use Rattle.book.specs.declared.Segment.{Segment}
use Rattle.supply.specs.Sound.{SoundSegment}
use Rattle.divisions.specs.Award.{gives_more}
use Rattle.divisions.proofs.Order.{More, more_here, more_later, more_cases}
use Rattle.choices.specs.Choice.{width, placed, ends_then, ends_in_order}
use Rattle.choices.proofs.Fill.{Box}

-- at most es, as far as there are es
abbrev AtMost : List ℕ → List ℕ → Type 0
AtMost ds [] = Unit {0}
AtMost [] (e ∷ es) = ⊥
AtMost (d ∷ ds) (e ∷ es) = (d ≤ e) × AtMost ds es

at_most_ends : (c : List Segment) (xs ds es : List ℕ) → All SoundSegment c → Box c xs → AtMost ds es
    → AtMost (reverse_aux (placed c xs) ds) (ends_then c es)
unfolding width
at_most_ends [] (x ∷ xs) ds es sound b h = elim b [ ]
at_most_ends (s ∷ c) [] ds es sound b h = elim b [ ]
at_most_ends [] [] ds es sound b h = h
at_most_ends (s ∷ c) (x ∷ xs) ds es sound b h =
    at_most_ends c xs ((s.start.0 + x) ∷ ds) (s.end.0 ∷ es) sound.1 b.1 (omega (arith, sound.0.order, b.0), h)

length_ends : (c : List Segment) (es : List ℕ) → length (ends_then c es) ≡ length c + length es
length_ends [] es = omega arith
length_ends (s ∷ c) es = omega (arith, length_ends c (s.end.0 ∷ es))

more_than : (k : ℕ) (qs es ds : List ℕ) → length es ≡ k → AtMost ds es → More (take k qs) es → More qs ds
unfolding gives_more
more_than zero qs es ds e a h = absurd (false≢true h)
more_than (suc k) [] es ds e a h = absurd (false≢true h)
more_than (suc k) (q ∷ qs) [] ds e a h = absurd (omega arith)
more_than (suc k) (q ∷ qs) (e ∷ es) [] n a h = elim a [ ]
more_than (suc k) (q ∷ qs) (e ∷ es) (d ∷ ds) n a h =
    go (more_cases q e (take k qs) es h) (dec_lt d q) (λ m. more_than k qs es ds (omega arith) a.1 m)
  where
    go : (e < q) ⊎ ((q ≡ e) × More (take k qs) es) → Dec (d < q) → (More (take k qs) es → More qs ds) → More (q ∷ qs) (d ∷ ds)
    go m (yes r) later = more_here q d qs ds r
    go (inl m) (no r) later = absurd (omega (arith, a.0))
    go (inr m) (no r) later = more_later q d qs ds (omega (arith, a.0, m.0)) (later m.1)

pub behind : (c : List Segment) (xs ds qs : List ℕ) → All SoundSegment c → Box c xs → gives_more (take (length c) qs) (ends_in_order c) ≡ true
    → gives_more qs (reverse_aux (placed c xs) ds) ≡ true
behind c xs ds qs sound b h =
    more_than (length c) qs (ends_in_order c) (reverse_aux (placed c xs) ds) (omega (arith, length_ends c [])) (at_most_ends c xs ds [] sound b tt) h
