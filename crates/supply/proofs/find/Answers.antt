-- The quantity is on none of the segments, from segment 0 to the last, once all were looked at.
use Rattle.std.proofs.Common.{arith, false, get_or, ◌≡◌, below_more}
use Rattle.book.specs.Entries.{bid_entries}
use Rattle.supply.specs.Supply.{on, segment0, supply_of}
use Rattle.supply.proofs.Places.{nowhere}
use Rattle.supply.proofs.Supply.{number_counted}
use Rattle.supply.proofs.find.Goals as goal

pub returns-else-on_segment : goal.returns-else-on_segment
returns-else-on_segment c =
    let last : on (get_or (supply_of (bid_entries c.args.bid)) c.loop-number.number segment0) c.args.quantity.0 ≡ false = cc (c.segment_of.ensures.value, c.if-on_segment.ensures) in
    nowhere _ _ (λ k h. below_more _ _ c.loop-number.invariant last k (omega (arith, number_counted c.args.bid k h)))
