-- The record of a text: its counts, the entries for which the record has a place, and zeros past the counts. A count above the places
-- stays as it is, so that the rules for a record refuse it.
use Rattle.std.specs.Prelude.{map, pos, replicate}
use Rattle.lists.specs.Padded.{padded}
use Rattle.book.specs.declared.Segment.{Segment}
use Rattle.book.specs.declared.Bid.{Bid}
use Rattle.book.specs.declared.Order.{Order}
use Rattle.book.specs.declared.Book.{Book}
use Rattle.book.specs.Entries.{BidEntries, BookEntries}

-- all zeros
abbrev pub empty_segment : Segment
empty_segment = record { start = record { 0 = 0 }; end = record { 0 = 0 }; unit = record { 0 = 0 }; fixed = record { 0 = pos 0 } }

abbrev pub empty_bid : Bid
empty_bid = record { bidder = 0; carriage = record { 0 = 0 }; count = 0; segments = replicate 6 empty_segment }

abbrev pub empty_order : Order
empty_order = record { demand = record { 0 = 0 }; allowance = record { 0 = 0 } }

abbrev pub empty_book : Book
empty_book = record { order = empty_order; count = 0; bids = replicate 8 empty_bid }

unfoldable pub bid_record : BidEntries → Bid
bid_record b = record { bidder = b.bidder; carriage = record { 0 = b.carriage }; count = b.count; segments = padded 6 empty_segment b.segments }

unfoldable pub book_record : BookEntries → Book
book_record b = record { order = b.order; count = b.count; bids = padded 8 empty_bid (map bid_record b.bids) }
