-- The bids passed are multiplied, and the product is at most 7 to the power of their number, since each has at most six segments.
use Rattle.std.proofs.Common.{◌≡◌, ◌≤◌, ◌*◌, ◌^◌, map, drop}
use Rattle.book.specs.Entries.{bid_entries}
use Rattle.sizes.specs.Sizes.{choices_of}
use Rattle.sizes.proofs.choices.Given as goal

abbrev pub invariant-loop-bid : goal.invariant-loop-bid
invariant-loop-bid l =
    (choices_of (map bid_entries l.bid-items) ≡ l.choices * choices_of (map bid_entries (drop l.bid-index l.bid-items))) × (l.choices ≤ 7 ^ l.bid-index)
