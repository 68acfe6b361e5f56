-- The bytes with which numbers and money are written: what holds of them holds of every byte of such a text. Assumes nothing.
use Prim.Native.Nat.{ℕ, suc, ◌+◌, ◌/◌, ◌%◌, ◌≤◌}
use native.Mathlib.Omega.{arith}
use lib.IntN.{ℤ, pos, negsuc}
use Rattle.lists.specs.All.{All}
use Rattle.lists.proofs.All.{all_append}
use Rattle.forms.specs.Digits.{digit, digits}
use Rattle.forms.specs.Money.{decimal_text, money_text}
use Rattle.forms.proofs.Digits.{digits_one, digits_more, by_digits}
use Rattle.forms.proofs.Money.{decimals, decimal_parts}

module _ (P : ℕ → Type 0) (each : (b : ℕ) → 48 ≤ b → b ≤ 57 → P b) where
  pub all_digits : (n : ℕ) → All P (digits n)
  all_digits = by_digits (λ n. All P (digits n))
      (λ n h. rw (digits_one n h) (each (48 + n) (omega arith) (omega arith), tt))
      (λ n h before. rw (digits_more n h) (all_append P (digits (n / 10)) (digit (n % 10)) before (each (48 + n % 10) (omega arith) (omega arith), tt)))

  pub all_decimal : P 46 → (n : ℕ) → All P (decimal_text n)
  all_decimal point n =
      let tenths = each (48 + n / 10 % 10) (omega arith) (omega arith) in
      let cents = each (48 + n % 10) (omega arith) (omega arith) in
      rw (decimal_parts n) (all_append P (digits (n / 100)) (decimals n) (all_digits (n / 100)) (point, (tenths, (cents, tt))))

  pub all_money : P 46 → P 45 → (z : ℤ) → All P (money_text z)
  unfolding money_text
  all_money point minus (pos n) = all_decimal point n
  all_money point minus (negsuc n) = (minus, all_decimal point (suc n))
