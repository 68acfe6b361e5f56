-- For the contracts of the functions that fill a record: a record with an entry more, stored where the array is not full, and counted.
use Rattle.std.specs.Prelude.{◌+◌}
use mathlib.Core.List.{List, foldl}
use Rattle.lists.specs.Padded.{added}
use Rattle.book.specs.declared.Segment.{Segment}
use Rattle.book.specs.declared.Bid.{Bid}
use Rattle.book.specs.declared.Book.{Book}
use Rattle.book.specs.Entries.{BidEntries}
use Rattle.booktext.specs.Record.{bid_record}

abbrev pub with_segment : Bid → Segment → Bid
with_segment b s = record { bidder = b.bidder; carriage = b.carriage; count = b.count + 1; segments = added 6 b.segments b.count s }

abbrev pub with_bid : Book → Bid → Book
with_bid b bid = record { order = b.order; count = b.count + 1; bids = added 8 b.bids b.count bid }

-- entries more, one after the other
abbrev pub with_segments : Bid → List Segment → Bid
with_segments = foldl with_segment

abbrev pub with_bids : Book → List BidEntries → Book
with_bids = foldl (λ r b. with_bid r (bid_record b))
