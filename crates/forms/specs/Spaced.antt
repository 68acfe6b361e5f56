-- Numbers with one space between two of them.
use Rattle.std.specs.Prelude.{ℕ, zero, suc, List, ◌++◌, get_or}
use Rattle.forms.specs.Bytes.{ascii}
use Rattle.forms.specs.Digits.{digits}
use Rattle.forms.specs.Form.{Form}
use Rattle.forms.specs.Word.{word}
use Rattle.forms.specs.Number.{Number, number}
use Rattle.forms.specs.Combined.{sequence, via}

-- p, a space and a number
abbrev pub spaced : {A : Type 0} → Form A → Form (A × ℕ)
spaced p =
    via (sequence (sequence p (word (ascii " "))) (number 0)) (λ x. (x.0.0, x.1)) (λ y. p.Valid y.0 × Number 0 y.1)
    (λ y. p.text y.0 ++ ascii " " ++ digits y.1)

-- one number, and n further ones
abbrev pub Numbers : ℕ → Type 0
Numbers zero = ℕ
Numbers (suc n) = Numbers n × ℕ

abbrev pub numbers : (n : ℕ) → Form (Numbers n)
numbers zero = number 0
numbers (suc n) = spaced (numbers n)

-- the first of a list, and n further ones
abbrev pub numbers_in : (n : ℕ) → List ℕ → Numbers n
numbers_in zero xs = get_or xs 0 0
numbers_in (suc n) xs = (numbers_in n xs, get_or xs (suc n) 0)
