use Rattle.std.proofs.Common.{◌+◌, ◌*◌, ◌≤◌, length, take}
use Rattle.lists.specs.Joined.{joined}
use Rattle.booktext.specs.BookText.{segment_text}
use Rattle.printer.specs.Puts.{Puts}
use Rattle.bookwriter.proofs.bids.put_segments.Given as goal

abbrev pub invariant-loop-segment : goal.invariant-loop-segment
invariant-loop-segment l = record {
  few : length l.segment-items ≤ 6;
  place : l.out.at ≤ l.initial.out.at + 4000 * l.segment-index;
  puts : Puts l.initial.out (joined segment_text (take l.segment-index l.segment-items)) l.out;
}
