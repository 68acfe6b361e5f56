-- The smallest discount that sells something lies between `low` and `high`, and `left` tests are enough to find it.
use Rattle.lists.proofs.Halving.{Between}
use Rattle.book.specs.Entries.{book_entries}
use Rattle.toodear.specs.TooDear.{sells_with}
use Rattle.toodear.specs.Asked.{Winnable}
use Rattle.toodear.proofs.discounts.smallest.Given as goal

-- for the bidder whose bid has that index
abbrev pub invariant-loop-low : goal.invariant-loop-low
invariant-loop-low l = (w : Winnable l.book l.at l.fn.most.0) → Between (sells_with (book_entries l.book) w.bid.bidder) l.fn.most.0 l.left l.low l.high

abbrev pub decreases-loop-low : goal.decreases-loop-low
decreases-loop-low l = l.left
