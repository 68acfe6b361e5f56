-- A number: at most thirteen digits, and no zero before another digit.
use Rattle.std.specs.Prelude.{ℕ, ◌+◌, ◌*◌, ◌-◌, ◌≤◌, cond, List, [], ◌∷◌, length}
use Rattle.forms.specs.Digits.{digits}
use Rattle.forms.specs.Form.{Parse, parsed, stopped, Form}
use Rattle.forms.specs.Tests.{is_first, goes_on, NoDigit}

-- the digits of v have been parsed
unfoldable pub further : ℕ → List ℕ → Parse ℕ
further v [] = parsed v []
further v (b ∷ t) = cond (goes_on v b) (further (v * 10 + (b - 48)) t) (parsed v (b ∷ t))

-- from the first digit on
unfoldable pub number_parse : ℕ → List ℕ → Parse ℕ
number_parse least [] = stopped 0
number_parse least (b ∷ t) = cond (is_first least b) (further (b - 48) t) (stopped 0)

-- `0`, or a digit 1 to 9 and at most twelve further digits
abbrev pub ThirteenDigits : ℕ → Type 0
ThirteenDigits n = length (digits n) ≤ 13

-- from `least` on, which is 0 or 1, and of at most thirteen digits
abbrev pub Number : ℕ → ℕ → Type 0
Number least n = (least ≤ n) × ThirteenDigits n

abbrev pub number : ℕ → Form ℕ
number least = record { Valid = Number least; text = digits; Follow = NoDigit; parse = number_parse least }
