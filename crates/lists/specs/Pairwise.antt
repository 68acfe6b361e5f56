-- Two lists compared, element by element.
use Rattle.std.specs.Prelude.{ℕ, zero, suc, List, [], ◌∷◌, ◌≡◌}

-- as long as each other, and R holds of each two at the same index
abbrev pub Pairwise : {A : Type 0} → (A → A → Type 0) → List A → List A → Type 0
Pairwise R [] [] = Unit {0}
Pairwise R [] (y ∷ ys) = ⊥
Pairwise R (x ∷ xs) [] = ⊥
Pairwise R (x ∷ xs) (y ∷ ys) = R x y × Pairwise R xs ys

-- the same but for the elements at index i, of which R holds
abbrev pub ChangedAt : {A : Type 0} → ℕ → (A → A → Type 0) → List A → List A → Type 0
ChangedAt i R [] ys = ⊥
ChangedAt i R (x ∷ xs) [] = ⊥
ChangedAt zero R (x ∷ xs) (y ∷ ys) = R x y × (xs ≡ ys)
ChangedAt (suc i) R (x ∷ xs) (y ∷ ys) = (x ≡ y) × ChangedAt i R xs ys
