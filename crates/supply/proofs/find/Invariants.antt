-- The quantity is on none of the segments looked at.
use Rattle.std.proofs.Common.{◌≡◌, ◌<◌, ℕ, get_or, false}
use Rattle.book.specs.Entries.{bid_entries}
use Rattle.supply.specs.Supply.{on, segment0, supply_of}
use Rattle.supply.proofs.find.Given as goal

abbrev pub invariant-loop-number : goal.invariant-loop-number
invariant-loop-number l = (k : ℕ) → k < l.number → on (get_or (supply_of (bid_entries l.bid)) k segment0) l.quantity.0 ≡ false
