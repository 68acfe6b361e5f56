-- The rows passed are put one after the other.
use Rattle.std.proofs.Common.{◌≡◌, length, take}
use Rattle.lists.specs.Joined.{joined}
use Rattle.printer.specs.Written.{written}
use Rattle.rownumbers.specs.RowNumbers.{row_numbers}
use Rattle.rownumbers.proofs.put_rows.Given as goal

abbrev pub invariant-loop-i : goal.invariant-loop-i
invariant-loop-i l = record {
  held : length l.rows ≡ length l.initial.rows;
  put : l.rows ≡ written l.initial.rows 0 (joined row_numbers (take l.i l.row-items));
}
