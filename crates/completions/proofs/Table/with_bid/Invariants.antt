-- The classes have what the segments taken add.
use Rattle.std.proofs.Common.{◌+◌, drop}
use Rattle.book.specs.Entries.{bid_entries}
use Rattle.supply.specs.Supply.{supply_of}
use Rattle.completions.specs.Steps.{ExtendedByBid}
use Rattle.completions.proofs.Table.with_bid.Given as goal

-- the segments after j are taken
abbrev pub invariant-loop-j : goal.invariant-loop-j
invariant-loop-j l =
    ExtendedByBid l.turn.order l.turn.at l.prices (drop (l.j + 1) (supply_of (bid_entries l.bid))) l.initial.self.classes l.self.classes
