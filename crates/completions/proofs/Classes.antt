-- Classes joined, and put into a table: how large they are, and what they have. Assumes nothing.
use Prim.Native.Nat.{ℕ, zero, suc, ◌+◌, ◌*◌, ◌<◌, min, max}
use native.Mathlib.Omega.{arith}
use mathlib.Core.List.{List}
use mathlib.Core.Path.{◌≡◌, refl}
use borrow.Author.Tests.{eq-eqb, ne_eqb}
use lib.ListN.{replicate}
use Rattle.lists.proofs.Tests.{same_or_not}
use Rattle.charges.specs.declared.Sums.{Sums}
use Rattle.charges.specs.Records.{UpTo}
use Rattle.completions.specs.Classes.{no_class, class_at, Admits, Graded}
use Rattle.completions.specs.Steps.{joined, Put, Addable, Added}
use Rattle.completions.proofs.Putting.{put_at}

-- two classes, of which the first is not empty
abbrev both : Sums → Sums → Sums
both a b = record {
  low = record { 0 = min a.low.0 b.low.0 };
  high = record { 0 = max a.high.0 b.high.0 };
  charges = record { first = min a.charges.first b.charges.first; second = min a.charges.second b.charges.second };
}

module _ (a b : Sums) where
  pub joined_empty : a.high.0 ≡ 0 → joined a b ≡ b
  joined_empty e = rw (eq-eqb a.high.0 0 e)

  joined_both : (a.high.0 ≡ 0 → ⊥) → joined a b ≡ both a b
  joined_both n = rw (ne_eqb a.high.0 0 n)

  joined_cases : (P : Sums → Type 0) → P b → P (both a b) → P (joined a b)
  joined_cases P p q = same_or_not a.high.0 0 (λ e. rw (joined_empty e) p) (λ n. rw (joined_both n) q)

  joined_up_to : (k : ℕ) → UpTo k a → UpTo k b → UpTo k (joined a b)
  joined_up_to k u v = joined_cases (UpTo k) v (omega arith)

  module _ (blanks x y : ℕ) where
    joined_left : Admits a blanks x y → Admits (joined a b) blanks x y
    joined_left h = rw (joined_both (λ e. omega arith)) (omega arith)

    joined_right : Admits b blanks x y → Admits (joined a b) blanks x y
    joined_right h = joined_cases (λ s. Admits s blanks x y) h (omega arith)

-- A class put where the bidders from `at` on have theirs.
module _ (before after : List Sums) (at class : ℕ) (x : Sums) (graded : Graded before) (asked : Addable at x) (held : at < 8) (within : class < 32)
    (put : Put before (32 * at + class) (joined (class_at before (32 * at + class)) x) after) where
  -- where it is put there is only one `left`
  up_to_lem : (at' left c : ℕ) → at' + left ≡ 8 → c < 32 → 32 * at' + c ≡ 32 * at + class → UpTo left (joined (class_at before (32 * at + class)) x)
  up_to_lem at' left c e h p =
      let q : at + left ≡ 8 = omega arith in
      joined_up_to _ x left (graded.up_to at left class q within) (asked.up_to left q)

  pub added_graded : Graded after
  added_graded = record {
    up_to = λ at' left c e h. put_at put (UpTo left) (32 * at' + c) (up_to_lem at' left c e h) (graded.up_to at' left c e h);
  }

  pub added : Added at x before after
  added = record {
    wider = record { admits = λ i b u v h. put_at put (λ s. Admits s b u v) i (λ e. joined_left _ x b u v (rw e at h)) h };
    new = λ b u v h. record { class = class; within = within; admits = rw put.here (joined_right (class_at before (32 * at + class)) x b u v h) };
  }

-- A table of empty classes, as one is lent at first.

empty_at : (n i : ℕ) → class_at (replicate n no_class) i ≡ no_class
empty_at zero i = refl
empty_at (suc n) zero = refl
empty_at (suc n) (suc i) = empty_at n i

pub graded_empty : (n : ℕ) → Graded (replicate n no_class)
graded_empty n = record { up_to = λ at left class e h. rw (empty_at n (32 * at + class)) (omega arith) }
