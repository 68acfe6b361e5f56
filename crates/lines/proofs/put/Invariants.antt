use Rattle.std.proofs.Common.{◌+◌, ◌*◌, ◌≤◌, take}
use Rattle.lists.specs.Joined.{joined}
use Rattle.printer.specs.Puts.{Puts}
use Rattle.lines.specs.Line.{part_text}
use Rattle.lines.proofs.put.Given as goal

abbrev pub invariant-loop-part : goal.invariant-loop-part
invariant-loop-part l = record {
  place : l.out.at ≤ l.initial.out.at + 500 * l.part-index;
  puts : Puts l.initial.out (joined part_text (take l.part-index l.line)) l.out;
}
