-- A number that may have `-` before it, never before 0.
use Rattle.std.specs.Prelude.{ℕ, ◌⊎◌, ℤ, pos, neg_ℤ, nat_abs}
use Rattle.std.proofs.Common.{inl, inr}
use Rattle.forms.specs.Digits.{signed_digits}
use Rattle.forms.specs.Form.{Form}
use Rattle.forms.specs.Number.{ThirteenDigits, number}
use Rattle.forms.specs.Combined.{either, via}

-- `-` and a number from 1 on, or a number
abbrev pub minus_or_none : Form (ℕ ⊎ ℕ)
minus_or_none = either 45 (number 1) (number 0)

-- the number meant
abbrev pub integer : ℕ ⊎ ℕ → ℤ
integer (inl n) = neg_ℤ (pos n)
integer (inr n) = pos n

-- of at most thirteen digits, whatever the sign
abbrev pub Integer : ℤ → Type 0
Integer z = ThirteenDigits (nat_abs z)

abbrev pub signed : Form ℤ
signed = via minus_or_none integer Integer signed_digits
