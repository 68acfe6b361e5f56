-- Money with a point and two decimals: its parts, and how long it is. Assumes nothing.
use Prim.Native.Nat.{ℕ, suc, ◌+◌, ◌/◌, ◌%◌, ◌^◌, ◌≤◌, ◌<◌}
use native.Mathlib.Omega.{arith}
use mathlib.Core.List.{List, ◌++◌, append_assoc}
use mathlib.Core.Path.{◌≡◌, ap, ◌∙◌}
use lib.IntN.{ℤ, pos}
use lib.ListN.{length, length-append}
use Rattle.forms.specs.Bytes.{ascii}
use Rattle.forms.specs.Digits.{digit, digits}
use Rattle.forms.specs.Money.{decimal_text, money_text}
use Rattle.forms.proofs.Digits.{length_below}

-- the point and what stands after it
abbrev pub decimals : ℕ → List ℕ
decimals n = ascii "." ++ digit (n / 10 % 10) ++ digit (n % 10)

pub decimal_parts : (n : ℕ) → decimal_text n ≡ digits (n / 100) ++ decimals n
unfolding decimal_text
decimal_parts n = simp append_assoc

pub length_decimal : (n : ℕ) → length (decimal_text n) ≡ length (digits (n / 100)) + 3
length_decimal n = ap length (decimal_parts n) ∙ length-append (digits (n / 100)) (decimals n)

-- below 10 to the power k + 3, at most k + 4 bytes
pub decimal_below : (k n : ℕ) → n < 10 ^ suc (suc (suc k)) → length (decimal_text n) ≤ k + 4
decimal_below k n h = omega (arith, length_decimal n, length_below k (n / 100) (omega arith))

-- an amount that is not negative
pub money_below : (k n : ℕ) (z : ℤ) → z ≡ pos n → n < 10 ^ suc (suc (suc k)) → length (money_text z) ≤ k + 4
unfolding money_text
money_below k n z e h = rw e (decimal_below k n h)
