-- The text of a signed number is its sign, and right after it its magnitude. Assumes nothing.
use Prim.Native.Nat.{ℕ}
use native.Mathlib.Omega.{arith}
use mathlib.Core.Bool.{Bool, true, false, true≢false}
use mathlib.Core.List.{List, [], ◌++◌}
use mathlib.Core.Path.{◌≡◌, refl, sym, ap, ◌∙◌}
use borrow.Author.Tests.{ltb-true}
use lib.IntN.{ℤ, pos, negsuc, nat_abs}
use lib.Signed.{lt_z}
use mir.Syntax.{w64}
use mir.Val.{SFits}
use mir.ValLaws.{to_z-of_z}
use Rattle.money.proofs.Machine.{stored}
use Rattle.forms.specs.Bytes.{ascii}
use Rattle.forms.specs.Digits.{digits, signed_digits}
use Rattle.forms.specs.Money.{decimal_text, money_text}
use Rattle.printer.specs.Sign.{sign}
use Rattle.printer.specs.declared.Output.{Output}
use Rattle.printer.specs.Puts.{Puts}
use Rattle.printer.proofs.Puts.{puts_as, puts_then}

-- a text of a number: its sign, and then f of its magnitude
abbrev pub Signed : (ℤ → List ℕ) → (ℕ → List ℕ) → Type 0
Signed text f = (z : ℤ) → sign z ++ f (nat_abs z) ≡ text z

pub sign_digits : Signed signed_digits digits
unfolding sign signed_digits
sign_digits (pos n) = refl
sign_digits (negsuc n) = refl

pub sign_decimals : Signed money_text decimal_text
unfolding sign money_text
sign_decimals (pos n) = refl
sign_decimals (negsuc n) = refl

-- such a text put, with a magnitude as the machine gives it
pub puts_signed : (text : ℤ → List ℕ) (f : ℕ → List ℕ) (z : ℤ) (n : ℕ) {before mid after : Output} → Signed text f → n ≡ nat_abs z
    → Puts before (sign z) mid → Puts mid (f n) after → Puts before (text z) after
puts_signed text f z n parts e first second = puts_as (ap (λ (k : ℕ). sign z ++ f k) e ∙ parts z) (puts_then first second)

-- the sign, as the machine tells it
below_zero : (z : ℤ) → lt_z z (pos 0) ≡ true → sign z ≡ ascii "-"
unfolding sign
below_zero (pos n) h = absurd (omega (arith, ltb-true n 0 h))
below_zero (negsuc n) h = refl

from_zero : (z : ℤ) → lt_z z (pos 0) ≡ false → sign z ≡ []
unfolding sign
from_zero (pos n) h = refl
from_zero (negsuc n) h = absurd (true≢false h)

module _ (z : ℤ) (fits : SFits w64 z) where
  told : (t : Bool) → lt_z (stored z) (pos 0) ≡ t → lt_z z (pos 0) ≡ t
  told t h = sym (ap (λ (y : ℤ). lt_z y (pos 0)) (to_z-of_z w64 z fits)) ∙ h

  pub negative : lt_z (stored z) (pos 0) ≡ true → sign z ≡ ascii "-"
  negative h = below_zero z (told true h)

  pub unsigned : lt_z (stored z) (pos 0) ≡ false → sign z ≡ []
  unsigned h = from_zero z (told false h)
