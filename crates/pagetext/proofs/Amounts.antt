-- An amount that was set in a column is read from it, where it is not negative: money, and a total without a bidder. Assumes nothing.
use Prim.Native.Nat.{ℕ, ◌+◌, ◌*◌, ◌-◌, ◌/◌, ◌%◌}
use native.Mathlib.Omega.{arith}
use mathlib.Core.Bool.{false}
use mathlib.Core.List.{List, ◌++◌, append_assoc}
use mathlib.Core.Path.{◌≡◌, sym, ap, ◌∙◌}
use borrow.Author.Tests.{ne_eqb}
use lib.IntN.{ℤ, pos, nat_abs}
use lib.ListN.{length, drop, replicate, length-append}
use lib.Seq.{take-append_seam, drop-append-add}
use Rattle.forms.specs.Bytes.{ascii}
use Rattle.forms.specs.Digits.{digits}
use Rattle.forms.specs.Money.{decimal_text, money_text}
use Rattle.forms.specs.Column.{right}
use Rattle.forms.proofs.Digits.{first}
use Rattle.forms.proofs.Money.{decimals, decimal_parts}
use Rattle.award.specs.declared.Total.{Total}
use Rattle.award.specs.declared.Total.TheVariants.{Amount, Nothing}
use Rattle.pagetext.specs.Page.{page_total}
use Rattle.pagetext.specs.ReadBack.{unspaced, read_on, number_in, cents_in, same_text, total_in}
use Rattle.pagetext.proofs.Numbers.{right_skipped, number_spaced}

abbrev pub FromZero : ℤ → Type 0
FromZero z = z ≡ pos (nat_abs z)

abbrev pub TotalFromZero : Total → Type 0
TotalFromZero (Amount cents) = FromZero cents.0
TotalFromZero Nothing = Unit {0}

-- the last three bytes are the decimals
cents_split : (hundreds : List ℕ) (n : ℕ) → cents_in (hundreds ++ decimals n) ≡ number_in hundreds * 100 + n % 100
unfolding cents_in number_in unspaced read_on
cents_split hundreds n =
    let size = length-append hundreds (decimals n) in
    let three : length (hundreds ++ decimals n) - 3 ≡ length hundreds = omega arith in
    let two : length (hundreds ++ decimals n) - 2 ≡ length hundreds + 1 = omega arith in
    let cents : number_in (drop 1 (decimals n)) ≡ n % 100 = rw (ne_eqb (48 + n / 10 % 10) 32 (omega arith)) (omega arith) in
    rw (three, two, take-append_seam, drop-append-add, cents)

pub cents_back : (width n : ℕ) → cents_in (right width (decimal_text n)) ≡ n
unfolding right
cents_back width n =
    let k = width - length (decimal_text n) in
    let spaces : List ℕ = replicate k 32 in
    ap cents_in (ap (λ (s : List ℕ). spaces ++ s) (decimal_parts n) ∙ sym (append_assoc spaces (digits (n / 100)) (decimals n)))
    ∙ cents_split (spaces ++ digits (n / 100)) n
    ∙ omega (arith, number_spaced k (n / 100))

pub money_back : (width : ℕ) (z : ℤ) → FromZero z → pos (cents_in (right width (money_text z))) ≡ z
unfolding money_text
money_back width z e = ap (λ (y : ℤ). pos (cents_in (right width (money_text y)))) e ∙ ap pos (cents_back width (nat_abs z)) ∙ sym e

-- money begins with a digit, and `none` does not
no_word : (n : ℕ) → same_text (unspaced (decimal_text n)) (ascii "none") ≡ false
unfolding same_text unspaced
no_word n =
    let f = first (n / 100) in
    rw (decimal_parts n, f.is, ne_eqb f.byte 32 (omega (arith, f.low)), ne_eqb f.byte 110 (omega (arith, f.high)))

pub total_back : (width : ℕ) (t : Total) → TotalFromZero t → total_in (right width (page_total t)) ≡ t
unfolding total_in page_total money_text same_text unspaced
total_back width (Amount cents) e =
    let n = nat_abs cents.0 in
    rw (right_skipped width (money_text cents.0), ap money_text e, no_word n, cents_back width n, ← e)
total_back width Nothing e = rw (right_skipped width (ascii "none"))
