-- The first elements of an array, the latest first, as loops go through them. Assumes nothing.
use Prim.Native.Nat.{ℕ, zero, suc, ◌+◌, ◌≤◌, ◌<◌}
use native.Mathlib.Nat.{le_refl}
use native.Mathlib.Numerals.{add-one}
use native.Mathlib.Decide.{dec_lt}
use native.Mathlib.Omega.{arith}
use mathlib.Core.List.{List, [], ◌∷◌}
use mathlib.Core.Path.{◌≡◌, refl, ap, ◌∙◌, subst}
use lib.ListN.{length, get_or, set}
use lib.Seq.{get_or-set_same, get_or-set_other}
use Rattle.lists.specs.All.{All}
use Rattle.lists.specs.Latest.{latest}

module _ {A : Type 0} (d : A) where
  pub latest_none : (xs : List A) → latest d xs 0 ≡ []
  unfolding latest
  latest_none xs = refl

  pub latest_next : (xs : List A) (n : ℕ) → latest d xs (suc n) ≡ get_or xs n d ∷ latest d xs n
  unfolding latest
  latest_next xs n = refl

  pub length_latest : (xs : List A) (n : ℕ) → length (latest d xs n) ≡ n
  unfolding latest
  length_latest xs zero = refl
  length_latest xs (suc n) = ap suc (length_latest xs n)

  -- a store at n or past it changes none of the first n
  pub latest_kept : (xs : List A) (i : ℕ) (x : A) (n : ℕ) → n ≤ i → latest d (set xs i x) n ≡ latest d xs n
  unfolding latest
  latest_kept xs i x zero h = refl
  latest_kept xs i x (suc n) h = rw (get_or-set_other xs i n x d (λ e. omega arith), latest_kept xs i x n (omega arith))

  -- a store after the first n makes them one more
  pub latest_set : (xs : List A) (n : ℕ) (x : A) → n < length xs → latest d (set xs n x) (n + 1) ≡ x ∷ latest d xs n
  latest_set xs n x h = rw add-one (latest_next (set xs n x) n ∙ rw (get_or-set_same xs n x d h, latest_kept xs n x n (le_refl n)))

  -- what holds of each of them holds of all
  pub latest_all : (P : A → Type 0) (xs : List A) (n : ℕ) → ((i : ℕ) → i < n → P (get_or xs i d)) → All P (latest d xs n)
  unfolding latest
  latest_all P xs zero each = tt
  latest_all P xs (suc n) each = (each n (le_refl (suc n)), latest_all P xs n (λ i h. each i (omega arith)))

  -- and conversely
  pub latest_at : (P : A → Type 0) (xs : List A) (n i : ℕ) → All P (latest d xs n) → i < n → P (get_or xs i d)
  unfolding latest
  latest_at P xs zero i all h = absurd (omega arith)
  latest_at P xs (suc n) i all h = go (dec_lt i n) (λ l. latest_at P xs n i all.1 l)
    where
      go : Dec (i < n) → (i < n → P (get_or xs i d)) → P (get_or xs i d)
      go (yes l) earlier = earlier l
      go (no l) earlier = let e : n ≡ i = omega arith in subst (λ (k : ℕ). P (get_or xs k d)) e all.0
