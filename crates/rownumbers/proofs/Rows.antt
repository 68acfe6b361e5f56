-- The numbers of as many rows as a loop has put: seven for each. Assumes nothing.
use Prim.Native.Nat.{ℕ, ◌+◌, ◌*◌, ◌≤◌, ◌<◌}
use native.Mathlib.Omega.{arith}
use mathlib.Core.List.{List, [], ◌∷◌}
use mathlib.Core.Path.{◌≡◌, refl, ap, ◌∙◌}
use lib.ListN.{length, get_or, take, length-append}
use lib.Seq.{length-take-le}
use Rattle.lists.specs.Joined.{joined}
use Rattle.printer.specs.Written.{written}
use Rattle.printer.proofs.Written.{wrote_next}
use Rattle.award.specs.declared.Row.{Row}
use Rattle.rownumbers.specs.RowNumbers.{row_numbers}

pub row_size : (row : Row) → length (row_numbers row) ≡ 7
unfolding row_numbers
row_size row = refl

numbers_size : (rows : List Row) → length (joined row_numbers rows) ≡ 7 * length rows
numbers_size [] = refl
numbers_size (row ∷ rows) = omega (arith, length-append (row_numbers row) (joined row_numbers rows), row_size row, numbers_size rows)

-- the numbers of the first i rows
rows_size : (rows : List Row) (i : ℕ) → i ≤ length rows → length (joined row_numbers (take i rows)) ≡ 7 * i
rows_size rows i h = numbers_size (take i rows) ∙ ap (λ (n : ℕ). 7 * n) (length-take-le i rows h)

-- a turn puts the numbers of the row at the index, of n rows that there is room for, at their place
pub next_row : (out : List ℕ) (rows : List Row) (i n : ℕ) (d : Row) (mid exit numbers : List ℕ)
    → i < n → n ≤ length rows → 7 * n ≤ length out
    → mid ≡ written out 0 (joined row_numbers (take i rows))
    → exit ≡ written mid (7 * i) numbers → numbers ≡ row_numbers (get_or rows i d)
    → exit ≡ written out 0 (joined row_numbers (take (i + 1) rows))
next_row out rows i n d mid exit numbers h k enough before this row =
    let place : 7 * i ≡ 0 + length (joined row_numbers (take i rows)) = omega (arith, rows_size rows i (omega arith)) in
    let end : 7 * i + 7 ≡ 7 * i + length (row_numbers (get_or rows i d)) = omega (arith, row_size (get_or rows i d)) in
    let fits : 0 + length (joined row_numbers (take n rows)) ≤ length out = omega (arith, rows_size rows n k) in
    let put : exit ≡ written mid (7 * i) (row_numbers (get_or rows i d)) = cc in
    (wrote_next out 0 row_numbers rows i n d mid (7 * i) exit (7 * i + 7) h k fits (place, before) (end, put)).1
