-- The tests of a byte by which texts are parsed.
use Rattle.std.specs.Prelude.{ℕ, ◌+◌, ◌≤◌, Bool, false, ◌&&◌, List, [], ◌∷◌, leb, ltb, eqb}

-- the next byte is x
abbrev pub starts_with : ℕ → List ℕ → Bool
starts_with x [] = false
starts_with x (b ∷ r) = eqb b x

-- `0` to `9`
abbrev pub is_digit : ℕ → Bool
is_digit b = leb 48 b && leb b 57

-- a number may begin with b: `least` is 0, or 1 where 0 is not allowed
abbrev pub is_first : ℕ → ℕ → Bool
is_first least b = leb (48 + least) b && leb b 57

-- the next byte may begin one
abbrev pub begins_number : ℕ → List ℕ → Bool
begins_number least [] = false
begins_number least (b ∷ t) = is_first least b

-- after the digits of v the digit b may follow: none after 0, and none after thirteen
abbrev pub goes_on : ℕ → ℕ → Bool
goes_on v b = ltb 0 v && (ltb v 1000000000000 && is_digit b)

-- any other byte
abbrev pub NoDigit : ℕ → Type 0
NoDigit b = 48 ≤ b → b ≤ 57 → ⊥
