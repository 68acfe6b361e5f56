-- A list less one of its elements. Assumes nothing.
use Prim.Native.Nat.{ℕ, zero, suc, ◌≤◌}
use native.Mathlib.Omega.{arith}
use mathlib.Core.List.{List, [], ◌∷◌, ◌++◌, map, map-append}
use mathlib.Core.Path.{◌≡◌, refl, ap₂, ◌∙◌}
use lib.ListN.{length, take, drop}
use Rattle.lists.specs.All.{All}
use Rattle.lists.proofs.All.{all_append, all_take}
use Rattle.lists.proofs.Slices.{map_take}

-- the list less the element with index i
abbrev pub removed : {A : Type 0} → ℕ → List A → List A
removed i xs = take i xs ++ drop (suc i) xs

pub map_drop : {A B : Type 0} (f : A → B) (n : ℕ) (xs : List A) → map f (drop n xs) ≡ drop n (map f xs)
map_drop f zero xs = refl
map_drop f (suc n) [] = refl
map_drop f (suc n) (x ∷ xs) = map_drop f n xs

pub map_removed : {A B : Type 0} (f : A → B) (i : ℕ) (xs : List A) → map f (removed i xs) ≡ removed i (map f xs)
map_removed {A} {B} f i xs =
    map-append f (take i xs) (drop (suc i) xs)
    ∙ ap₂ (λ (l r : List B). l ++ r) (map_take f i xs) (map_drop f (suc i) xs)

module _ {A : Type 0} where
  pub length_removed : (i : ℕ) (xs : List A) → length (removed i xs) ≤ length xs
  length_removed zero [] = omega arith
  length_removed zero (x ∷ xs) = omega arith
  length_removed (suc i) [] = omega arith
  length_removed (suc i) (x ∷ xs) = omega (arith, length_removed i xs)

  pub all_drop : (P : A → Type 0) (n : ℕ) (xs : List A) → All P xs → All P (drop n xs)
  all_drop P zero xs p = p
  all_drop P (suc n) [] p = tt
  all_drop P (suc n) (x ∷ xs) p = all_drop P n xs p.1

  pub all_removed : (P : A → Type 0) (i : ℕ) (xs : List A) → All P xs → All P (removed i xs)
  all_removed P i xs p = all_append P (take i xs) (drop (suc i) xs) (all_take P i xs p) (all_drop P (suc i) xs p)
