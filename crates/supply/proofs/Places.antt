-- The first segment of a supply function that a quantity is on, or that it is on none. Assumes nothing.
use Prim.Native.Nat.{ℕ, zero, suc, ◌+◌, ◌<◌, suc-le-suc}
use native.Mathlib.Nat.{le_of_suc-le-suc, not-suc-le-zero}
use native.Mathlib.Omega.{arith}
use mathlib.Core.Bool.{Bool, true, false, false≢true}
use mathlib.Core.List.{List, [], ◌∷◌}
use mathlib.Core.Path.{◌≡◌, refl, sym}
use lib.ListN.{length, get_or}
use Rattle.std.specs.Prelude.{Option, Some, None, unwrap_or}
use Rattle.lists.proofs.Tests.{neither_left, neither_right}
use Rattle.book.specs.declared.Segment.{Segment}
use Rattle.supply.specs.Supply.{segment0, on, offers, number_from, segment_number}
use Rattle.supply.specs.Places.{FirstOn, FoundAt}

-- past a segment that the quantity is not on
pub past_first : {s : Segment} {ss : List Segment} {r j : ℕ} → FirstOn (s ∷ ss) r (suc j) → FirstOn ss r j
past_first f = record { there = le_of_suc-le-suc f.there; here = f.here; before = λ k h. f.before (suc k) (omega arith) }

-- there is one where the quantity is offered
pub first_on : (ss : List Segment) (r : ℕ) → offers ss r ≡ true → (j : ℕ) × FirstOn ss r j
unfolding offers
first_on [] r e = absurd (false≢true e)
first_on (s ∷ ss) r e = go (on s r) refl (λ f. first_on ss r (rw f at e))
  where
    none_before : (j : ℕ) → on s r ≡ false → FirstOn ss r j → (k : ℕ) → k < suc j → on (get_or (s ∷ ss) k segment0) r ≡ false
    none_before j f g zero h = f
    none_before j f g (suc k) h = g.before k (le_of_suc-le-suc h)

    go : (t : Bool) → on s r ≡ t → (on s r ≡ false → (j : ℕ) × FirstOn ss r j) → (j : ℕ) × FirstOn (s ∷ ss) r j
    go true f later = (0, record { there = omega arith; here = f; before = λ k h. absurd (not-suc-le-zero h) })
    go false f later =
        let (j, g) = later f in
        (suc j, record { there = suc-le-suc g.there; here = g.here; before = none_before j f g })

-- a quantity that is on none of the segments, looked at one by one
pub nowhere : (ss : List Segment) (r : ℕ) → ((k : ℕ) → k < length ss → on (get_or ss k segment0) r ≡ false) → offers ss r ≡ false
unfolding offers
nowhere [] r f = refl
nowhere (s ∷ ss) r f = rw (f 0 (omega arith)) (nowhere ss r (λ k h. f (suc k) (omega arith)))

-- the segment's number
number_from_lem : (n : ℕ) (ss : List Segment) (r j : ℕ) → FirstOn ss r j → number_from n ss r ≡ n + j
unfolding number_from
number_from_lem n [] r j f = absurd (not-suc-le-zero f.there)
number_from_lem n (s ∷ ss) r zero f = rw f.here (omega arith)
number_from_lem n (s ∷ ss) r (suc j) f =
    let later = number_from_lem (n + 1) ss r j (past_first f) in
    rw (f.before 0 (omega arith)) (omega arith)

pub number_found : (ss : List Segment) (r j : ℕ) → FirstOn ss r j → segment_number ss r ≡ j
unfolding segment_number
number_found ss r j f = omega (arith, number_from_lem 0 ss r j f)

number_none : (n : ℕ) (ss : List Segment) (r : ℕ) → offers ss r ≡ false → number_from n ss r ≡ 0
unfolding number_from offers
number_none n [] r e = refl
number_none n (s ∷ ss) r e = rw (neither_left (on s r) (offers ss r) e) (number_none (n + 1) ss r (neither_right (on s r) (offers ss r) e))

pub number_nowhere : (ss : List Segment) (r : ℕ) → offers ss r ≡ false → segment_number ss r ≡ 0
unfolding segment_number
number_nowhere ss r e = number_none 0 ss r e

-- the number of the segment that was found, and 0 where there is none
pub number_at : (ss : List Segment) (r : ℕ) (found : Option ℕ) → FoundAt ss r found → unwrap_or found 0 ≡ segment_number ss r
number_at ss r (Some j) f = sym (number_found ss r j f)
number_at ss r None e = sym (number_nowhere ss r e)
