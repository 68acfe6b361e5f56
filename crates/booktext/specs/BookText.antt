-- The text of a bid book (document 01, section "The bid book", with the carriage and the allowance of document 02, changes 2 and 5):
-- one form a line, each line ended by byte 10.
use Rattle.std.specs.Prelude.{ℕ, List, ◌++◌}
use Rattle.lists.specs.Joined.{joined}
use Rattle.forms.specs.Bytes.{ascii}
use Rattle.forms.specs.Digits.{digits, signed_digits}
use Rattle.book.specs.declared.Segment.{Segment}
use Rattle.book.specs.Entries.{BidEntries, BookEntries}

-- start, end, unit price and fixed price, with the space before
unfoldable pub segment_text : Segment → List ℕ
segment_text s =
    ascii " (seg " ++ digits s.start.0
    ++ ascii " " ++ digits s.end.0
    ++ ascii " " ++ digits s.unit.0
    ++ ascii " " ++ signed_digits s.fixed.0
    ++ ascii ")"

-- the bidder number and the carriage, and then the segments
unfoldable pub bid_head : BidEntries → List ℕ
bid_head b = ascii "(bid " ++ digits b.bidder ++ ascii " " ++ digits b.carriage

unfoldable pub bid_text : BidEntries → List ℕ
bid_text b = bid_head b ++ joined segment_text b.segments ++ ascii ")\n"

-- the demand and the allowance, and then the bids
unfoldable pub book_head : BookEntries → List ℕ
book_head b = ascii "(demand " ++ digits b.order.demand.0 ++ ascii " " ++ digits b.order.allowance.0 ++ ascii ")\n"

unfoldable pub book_text : BookEntries → List ℕ
book_text b = book_head b ++ joined bid_text b.bids
