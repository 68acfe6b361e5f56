-- Sums over the first elements of an array, where one of them gives way to another. Assumes nothing.
use Prim.Native.Nat.{ℕ, zero, suc, ◌+◌, ◌≤◌, ◌<◌}
use native.Mathlib.Decide.{dec_lt}
use native.Mathlib.Nat.{le_refl}
use native.Mathlib.Omega.{arith}
use mathlib.Core.List.{List, [], ◌∷◌}
use mathlib.Core.Path.{◌≡◌, ap, ◌∙◌}
use lib.ListN.{length, get_or, set}
use lib.Seq.{get_or-set_same, get_or-set_other}
use Rattle.lists.specs.Latest.{latest}
use Rattle.lists.proofs.Latest.{latest_none, latest_next, latest_kept}

-- f adds up g of every element
pub record Adds {A : Type 0} (f : List A → ℕ) (g : A → ℕ) : Type 0 where
  pub none : f [] ≡ 0
  pub next : (x : A) (xs : List A) → f (x ∷ xs) ≡ g x + f xs

module _ {A : Type 0} (d : A) {f : List A → ℕ} {g : A → ℕ} (adds : Adds f g) where
  sum_none : (xs : List A) → f (latest d xs 0) ≡ 0
  sum_none xs = ap f (latest_none d xs) ∙ adds.none

  sum_next : (xs : List A) (n : ℕ) → f (latest d xs (suc n)) ≡ g (get_or xs n d) + f (latest d xs n)
  sum_next xs n = ap f (latest_next d xs n) ∙ adds.next (get_or xs n d) (latest d xs n)

  pub sum_zero : (xs : List A) (n : ℕ) → ((i : ℕ) → i < n → g (get_or xs i d) ≡ 0) → f (latest d xs n) ≡ 0
  sum_zero xs zero each = sum_none xs
  sum_zero xs (suc n) each = omega (arith, sum_next xs n, each n (le_refl (suc n)), sum_zero xs n (λ i h. each i (omega arith)))

  -- the sum loses what the one counts and gains what the other does
  abbrev pub Exchanged : List A → ℕ → A → ℕ → Type 0
  Exchanged xs i x n = f (latest d (set xs i x) n) + g (get_or xs i d) ≡ f (latest d xs n) + g x

  pub sum_exchanged : (xs : List A) (n i : ℕ) (x : A) → i < n → i < length xs → Exchanged xs i x n
  sum_exchanged xs zero i x h held = absurd (omega arith)
  sum_exchanged xs (suc n) i x h held = go (dec_lt i n) (λ l. sum_exchanged xs n i x l held)
    where
      go : Dec (i < n) → (i < n → Exchanged xs i x n) → Exchanged xs i x (suc n)
      go (yes l) earlier =
          let same = ap g (get_or-set_other xs i n x d (λ e. omega arith)) in
          omega (arith, sum_next (set xs i x) n, sum_next xs n, same, earlier l)
      go (no l) earlier =
          let e : n ≡ i = omega arith in
          let new = ap g (ap (λ (k : ℕ). get_or (set xs i x) k d) e ∙ get_or-set_same xs i x d held) in
          let old = ap (λ (k : ℕ). g (get_or xs k d)) e in
          let others = ap f (latest_kept d xs i x n (omega arith)) in
          omega (arith, sum_next (set xs i x) n, sum_next xs n, new, old, others)

  -- one counts no more than all
  pub one_within : (xs : List A) (n i : ℕ) → i < n → g (get_or xs i d) ≤ f (latest d xs n)
  one_within xs zero i h = absurd (omega arith)
  one_within xs (suc n) i h = go (dec_lt i n) (λ l. one_within xs n i l)
    where
      go : Dec (i < n) → (i < n → g (get_or xs i d) ≤ f (latest d xs n)) → g (get_or xs i d) ≤ f (latest d xs (suc n))
      go (yes l) earlier = omega (arith, sum_next xs n, earlier l)
      go (no l) earlier =
          let e : n ≡ i = omega arith in
          let here = ap (λ (k : ℕ). g (get_or xs k d)) e in
          omega (arith, sum_next xs n, here)
