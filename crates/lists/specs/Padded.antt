-- A list brought to a length: an array that holds it.
use Rattle.std.specs.Prelude.{ℕ, cond, List, ◌++◌, ltb, set, take, replicate}

-- the first n of xs, with a zero entry for each that is missing
abbrev pub padded : {A : Type 0} → ℕ → A → List A → List A
padded n zero-entry xs = take n (xs ++ replicate n zero-entry)

-- with an entry more, the one after the first `count`, stored where there is a place for it
abbrev pub added : {A : Type 0} → ℕ → List A → ℕ → A → List A
added places xs count x = cond (ltb count places) (set xs count x) xs
