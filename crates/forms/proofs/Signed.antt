-- The laws of a number that may have `-` before it. Assumes nothing.
use Prim.Native.Nat.{ℕ, zero, suc}
use native.Mathlib.Omega.{arith}
use mathlib.Core.Logic.{◌⊎◌, inl, inr}
use mathlib.Core.Path.{◌≡◌, refl}
use lib.IntN.{ℤ, pos, negsuc}
use Rattle.forms.specs.Digits.{signed_digits}
use Rattle.forms.specs.Number.{number}
use Rattle.forms.specs.Signed.{minus_or_none, integer, Integer, signed}
use Rattle.forms.proofs.Digits.{first}
use Rattle.forms.proofs.Form.{Laws}
use Rattle.forms.proofs.Number.{number_laws}
use Rattle.forms.proofs.Either.{Apart, either_laws}
use Rattle.forms.proofs.Via.{Same, via_laws}

no_minus : Apart 45 (number 0)
no_minus n v = let f = first n in (f.byte, f.rest, f.is, λ e. omega (arith, f.low))

abbrev sides : ℤ → ℕ ⊎ ℕ
sides (pos n) = inr n
sides (negsuc n) = inl (suc n)

to_valid : (z : ℤ) → Integer z → minus_or_none.Valid (sides z)
to_valid (pos n) v = (omega arith, v)
to_valid (negsuc n) v = (omega arith, v)

back : (z : ℤ) → Integer z → integer (sides z) ≡ z
back (pos n) v = refl
back (negsuc n) v = refl

from_valid : (y : ℕ ⊎ ℕ) → minus_or_none.Valid y → Integer (integer y)
from_valid (inl zero) v = absurd (omega (arith, v.0))
from_valid (inl (suc n)) v = v.1
from_valid (inr n) v = v.1

same_text : (y : ℕ ⊎ ℕ) → minus_or_none.Valid y → signed_digits (integer y) ≡ minus_or_none.text y
unfolding signed_digits
same_text (inl zero) v = absurd (omega (arith, v.0))
same_text (inl (suc n)) v = refl
same_text (inr n) v = refl

same_integers : Same minus_or_none integer sides Integer signed_digits
same_integers = record { to_valid = to_valid; back = back; from_valid = from_valid; same_text = same_text }

pub signed_laws : Laws signed
signed_laws = via_laws (either_laws (number_laws 1 (omega arith)) (number_laws 0 (omega arith)) no_minus) same_integers
