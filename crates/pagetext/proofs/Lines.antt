-- Each line of a page is 64 bytes and byte 10, where no column is too narrow. Assumes nothing.
use Prim.Native.Nat.{ℕ}
use native.Mathlib.Omega.{arith}
use mathlib.Core.List.{List}
use mathlib.Core.Path.{◌≡◌, refl, ap, ◌∙◌}
use lib.IntN.{ℤ}
use lib.ListN.{length, length-append}
use Rattle.lists.specs.All.{All}
use Rattle.forms.specs.Bytes.{ascii}
use Rattle.forms.specs.Digits.{digits}
use Rattle.forms.specs.Money.{money_text}
use Rattle.forms.proofs.Bytes.{all_digits, all_money}
use Rattle.award.specs.declared.Total.{Total}
use Rattle.award.specs.declared.Total.TheVariants.{Amount, Nothing}
use Rattle.award.specs.declared.Row.{Row}
use Rattle.award.specs.declared.Award.{Award}
use Rattle.pagetext.specs.Page.{Column, line_text, page_total, first_columns, row_columns, page_row, page_first}
use Rattle.pagetext.specs.Fits.{Fits, RowFits, PageLine}
use Rattle.pagetext.proofs.Columns.{columns_text, widths, length_columns, all_columns}

-- nothing that is shown has byte 10
abbrev NoEnd : ℕ → Type 0
NoEnd b = b ≡ 10 → ⊥

in_number : (n : ℕ) → All NoEnd (digits n)
in_number = all_digits NoEnd (omega arith)

in_money : (z : ℤ) → All NoEnd (money_text z)
in_money = all_money NoEnd (omega arith) (omega arith) (omega arith)

in_total : (t : Total) → All NoEnd (page_total t)
unfolding page_total
in_total (Amount cents) = in_money cents.0
in_total Nothing = omega arith

line_of : (cs : List Column) → All Fits cs → All (λ c. All NoEnd c.1) cs → widths cs ≡ 64 → PageLine (line_text cs)
line_of cs fits shown wide = record {
  bytes = columns_text cs;
  many = length_columns cs fits ∙ wide;
  no_end = all_columns NoEnd (omega arith) cs shown;
  is = refl;
}

pub first_line : (award : Award) → All Fits (first_columns award) → PageLine (page_first award)
unfolding page_first
first_line award fits = line_of (first_columns award) fits (in_number _, (in_number _, (in_money _, tt))) refl

pub row_line : (row : Row) → RowFits row → PageLine (page_row row)
unfolding page_row
row_line row fits =
    line_of (row_columns row) fits (in_number _, (in_number _, (in_number _, (in_money _, (in_number _, (in_total _, tt)))))) refl

pub line_length : (line : List ℕ) → PageLine line → length line ≡ 65
line_length line l = ap length l.is ∙ length-append l.bytes (ascii "\n") ∙ omega (arith, l.many)
