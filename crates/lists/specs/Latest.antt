-- The first elements of an array, the latest first.
use Rattle.std.specs.Prelude.{ℕ, zero, suc, List, [], ◌∷◌, get_or}

-- the first n of xs; d stands for each that is missing
unfoldable pub latest : {A : Type 0} → A → List A → ℕ → List A
latest d xs zero = []
latest d xs (suc n) = get_or xs n d ∷ latest d xs n
