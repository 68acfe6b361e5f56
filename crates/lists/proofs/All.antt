-- What holds of every element: how it is shown, and how it carries over to other lists. Assumes nothing.
use Prim.Native.Nat.{ℕ, zero, suc, ◌<◌, suc-le-suc}
use native.Mathlib.Nat.{zero-lt-suc, le_of_suc-le-suc, not-suc-le-zero}
use mathlib.Core.Bool.{Bool, true}
use mathlib.Core.List.{List, [], ◌∷◌, ◌++◌, map}
use mathlib.Core.Path.{◌≡◌, refl, ap₂}
use lib.ListN.{replicate, length, get_or, take}
use Rattle.lists.specs.All.{All}
use Rattle.lists.specs.Every.{every}
use Rattle.lists.proofs.Tests.{both_left, both_right}

module _ {A : Type 0} where
  -- from each index, and from a test
  pub all_indexed : (P : A → Type 0) (d : A) (xs : List A) → ((i : ℕ) → i < length xs → P (get_or xs i d)) → All P xs
  all_indexed P d [] h = tt
  all_indexed P d (x ∷ xs) h = (h 0 (zero-lt-suc (length xs)), all_indexed P d xs (λ i l. h (suc i) (suc-le-suc l)))

  pub all_tested : (test : A → Bool) (xs : List A) → every test xs ≡ true → All (λ x. test x ≡ true) xs
  unfolding every
  all_tested test [] e = tt
  all_tested test (x ∷ xs) e = (both_left (test x) (every test xs) e, all_tested test xs (both_right (test x) (every test xs) e))

  -- from what else holds of every element
  pub all_from : (P Q : A → Type 0) → ((x : A) → P x → Q x) → (xs : List A) → All P xs → All Q xs
  all_from P Q f [] p = tt
  all_from P Q f (x ∷ xs) p = (f x p.0, all_from P Q f xs p.1)

  pub all_both : (P Q : A → Type 0) (xs : List A) → All P xs → All Q xs → All (λ x. P x × Q x) xs
  all_both P Q [] p q = tt
  all_both P Q (x ∷ xs) p q = ((p.0, q.0), all_both P Q xs p.1 q.1)

  -- what holds of any element
  pub all_any : (P : A → Type 0) → ((x : A) → P x) → (xs : List A) → All P xs
  all_any P h [] = tt
  all_any P h (x ∷ xs) = (h x, all_any P h xs)

  pub all_append : (P : A → Type 0) (xs ys : List A) → All P xs → All P ys → All P (xs ++ ys)
  all_append P [] ys p q = q
  all_append P (x ∷ xs) ys p q = (p.0, all_append P xs ys p.1 q)

  pub all_same : (P : A → Type 0) (n : ℕ) (x : A) → P x → All P (replicate n x)
  all_same P zero x p = tt
  all_same P (suc n) x p = (p, all_same P n x p)

  -- of the first n elements
  pub all_take : (P : A → Type 0) (n : ℕ) (xs : List A) → All P xs → All P (take n xs)
  all_take P zero xs p = tt
  all_take P (suc n) [] p = tt
  all_take P (suc n) (x ∷ xs) p = (p.0, all_take P n xs p.1)

-- of the list of what f gives for each
module _ {A B : Type 0} (f : A → B) (P : B → Type 0) where
  pub all_map : (xs : List A) → All (λ x. P (f x)) xs → All P (map f xs)
  all_map [] p = tt
  all_map (x ∷ xs) p = (p.0, all_map xs p.1)

  pub map_all : (xs : List A) → All P (map f xs) → All (λ x. P (f x)) xs
  map_all [] p = tt
  map_all (x ∷ xs) p = (p.0, map_all xs p.1)

-- f, and g that takes each element back
pub map_back : {A B : Type 0} (f : A → B) (g : B → A) (xs : List A) → All (λ x. g (f x) ≡ x) xs → map g (map f xs) ≡ xs
map_back f g [] h = refl
map_back {A} f g (x ∷ xs) h = ap₂ (λ (y : A) (ys : List A). y ∷ ys) h.0 (map_back f g xs h.1)

-- what holds of every element holds at each index
pub all_at : {A : Type 0} (P : A → Type 0) (d : A) (xs : List A) → All P xs → (i : ℕ) → i < length xs → P (get_or xs i d)
all_at P d [] p i h = absurd (not-suc-le-zero h)
all_at P d (x ∷ xs) p zero h = p.0
all_at P d (x ∷ xs) p (suc i) h = all_at P d xs p.1 i (le_of_suc-le-suc h)
