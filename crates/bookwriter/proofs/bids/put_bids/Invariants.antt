use Rattle.std.proofs.Common.{◌+◌, ◌*◌, ◌≤◌, length, take}
use Rattle.lists.specs.Joined.{joined}
use Rattle.printer.specs.Puts.{Puts}
use Rattle.bookwriter.proofs.Sizes.{bid_line}
use Rattle.bookwriter.proofs.bids.put_bids.Given as goal

abbrev pub invariant-loop-bid : goal.invariant-loop-bid
invariant-loop-bid l = record {
  few : length l.bid-items ≤ 8;
  place : l.out.at ≤ l.initial.out.at + 29000 * l.bid-index;
  puts : Puts l.initial.out (joined bid_line (take l.bid-index l.bid-items)) l.out;
}
