-- Money with a point and two decimals, as a page shows it (document 02, change 1): 5 cents are 0.05.
use Rattle.std.specs.Prelude.{ℕ, suc, ◌/◌, ◌%◌, List, ◌++◌, ℤ, pos, negsuc}
use Rattle.forms.specs.Bytes.{ascii}
use Rattle.forms.specs.Digits.{digit, digits}

unfoldable pub decimal_text : ℕ → List ℕ
decimal_text cents = digits (cents / 100) ++ ascii "." ++ digit (cents / 10 % 10) ++ digit (cents % 10)

-- With `-` before it where it is below 0, as no amount of an award is.
unfoldable pub money_text : ℤ → List ℕ
money_text (pos cents) = decimal_text cents
money_text (negsuc n) = ascii "-" ++ decimal_text (suc n)
