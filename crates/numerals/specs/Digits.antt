-- For the contracts of the functions that look at a digit.
use Rattle.std.specs.Prelude.{ℕ, ◌-◌, Bool, cond, List, [], ◌∷◌, Option, Some, None}

-- the next byte as a digit's number, where the test holds of it
abbrev pub digit_if : (ℕ → Bool) → List ℕ → Option ℕ
digit_if test [] = None
digit_if test (b ∷ r) = cond (test b) (Some (b - 48)) None
