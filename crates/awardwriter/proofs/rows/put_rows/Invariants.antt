-- The rows passed are put one after the other.
use Rattle.std.proofs.Common.{◌+◌, ◌*◌, ◌≤◌, take}
use Rattle.lists.specs.Joined.{joined}
use Rattle.printer.specs.Puts.{Puts}
use Rattle.awardwriter.specs.Layout.{layout_row}
use Rattle.awardwriter.proofs.rows.put_rows.Given as goal

abbrev pub invariant-loop-row : goal.invariant-loop-row
invariant-loop-row l = record {
  place : l.out.at ≤ l.initial.out.at + 4000 * l.row-index;
  puts : Puts l.initial.out (joined (layout_row l.layout) (take l.row-index l.row-items)) l.out;
}
