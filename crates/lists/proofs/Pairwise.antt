-- Two lists compared: what follows for other relations and for other lists. Assumes nothing.
use Prim.Native.Nat.{ℕ, zero, suc}
use mathlib.Core.List.{List, [], ◌∷◌, map}
use mathlib.Core.Path.{ap, subst}
use Rattle.lists.specs.Pairwise.{Pairwise, ChangedAt}

-- from what else holds of each two
module _ {A : Type 0} (R S : A → A → Type 0) (f : (x y : A) → R x y → S x y) where
  pub pairwise_from : (xs ys : List A) → Pairwise R xs ys → Pairwise S xs ys
  pairwise_from [] [] p = tt
  pairwise_from [] (y ∷ ys) p = elim p [ ]
  pairwise_from (x ∷ xs) [] p = elim p [ ]
  pairwise_from (x ∷ xs) (y ∷ ys) p = (f x y p.0, pairwise_from xs ys p.1)

  pub changed_from : (i : ℕ) (xs ys : List A) → ChangedAt i R xs ys → ChangedAt i S xs ys
  changed_from zero (x ∷ xs) (y ∷ ys) p = (f x y p.0, p.1)
  changed_from zero [] ys p = elim p [ ]
  changed_from zero (x ∷ xs) [] p = elim p [ ]
  changed_from (suc i) [] ys p = elim p [ ]
  changed_from (suc i) (x ∷ xs) [] p = elim p [ ]
  changed_from (suc i) (x ∷ xs) (y ∷ ys) p = (p.0, changed_from i xs ys p.1)

-- of the lists of what f gives for each
module _ {A B : Type 0} (f : A → B) (R : B → B → Type 0) where
  pub pairwise_map : (xs ys : List A) → Pairwise (λ x y. R (f x) (f y)) xs ys → Pairwise R (map f xs) (map f ys)
  pairwise_map [] [] p = tt
  pairwise_map [] (y ∷ ys) p = elim p [ ]
  pairwise_map (x ∷ xs) [] p = elim p [ ]
  pairwise_map (x ∷ xs) (y ∷ ys) p = (p.0, pairwise_map xs ys p.1)

  pub changed_map : (i : ℕ) (xs ys : List A) → ChangedAt i (λ x y. R (f x) (f y)) xs ys → ChangedAt i R (map f xs) (map f ys)
  changed_map zero (x ∷ xs) (y ∷ ys) p = (p.0, ap (map f) p.1)
  changed_map zero [] ys p = elim p [ ]
  changed_map zero (x ∷ xs) [] p = elim p [ ]
  changed_map (suc i) [] ys p = elim p [ ]
  changed_map (suc i) (x ∷ xs) [] p = elim p [ ]
  changed_map (suc i) (x ∷ xs) (y ∷ ys) p = (ap f p.0, changed_map i xs ys p.1)

-- where R holds of every element and itself
module _ {A : Type 0} (R : A → A → Type 0) (same : (x : A) → R x x) where
  pub pairwise_same : (xs : List A) → Pairwise R xs xs
  pairwise_same [] = tt
  pairwise_same (x ∷ xs) = (same x, pairwise_same xs)

  pub changed_pairwise : (i : ℕ) (xs ys : List A) → ChangedAt i R xs ys → Pairwise R xs ys
  changed_pairwise zero (x ∷ xs) (y ∷ ys) p = (p.0, subst (λ zs. Pairwise R xs zs) p.1 (pairwise_same xs))
  changed_pairwise zero [] ys p = elim p [ ]
  changed_pairwise zero (x ∷ xs) [] p = elim p [ ]
  changed_pairwise (suc i) [] ys p = elim p [ ]
  changed_pairwise (suc i) (x ∷ xs) [] p = elim p [ ]
  changed_pairwise (suc i) (x ∷ xs) (y ∷ ys) p = (subst (R x) p.0 (same x), changed_pairwise i xs ys p.1)

-- the other way round
pub pairwise_back : {A : Type 0} (R : A → A → Type 0) (xs ys : List A) → Pairwise R xs ys → Pairwise (λ y x. R x y) ys xs
pairwise_back R [] [] p = tt
pairwise_back {A = A} R [] (y ∷ ys) p = elim p [ ]
pairwise_back {A = A} R (x ∷ xs) [] p = elim p [ ]
pairwise_back R (x ∷ xs) (y ∷ ys) p = (p.0, pairwise_back R xs ys p.1)
