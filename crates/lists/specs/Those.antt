-- The elements of a list of which a test holds.
use Rattle.std.specs.Prelude.{Bool, cond, List, [], ◌∷◌}

unfoldable pub those : {A : Type 0} → (A → Bool) → List A → List A
those test [] = []
those test (x ∷ xs) = cond (test x) (x ∷ those test xs) (those test xs)
