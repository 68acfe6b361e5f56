-- The segments and the bids as they are added to a record. Assumes nothing.
use Rattle.book.specs.declared.Segment.{Segment}
use Rattle.book.specs.declared.Bid.{Bid}
use Rattle.book.specs.declared.Book.{Book}
use Rattle.book.specs.Entries.{BidEntries}
use Rattle.scanner.proofs.Collecting.{Listing}
use Rattle.booktext.specs.BookForm.{segment, bid}
use Rattle.booktext.proofs.BookForm.{segment_laws, segment_space, bid_laws, bid_open}
use Rattle.bookrecord.specs.Adding.{with_segment}
use Rattle.booklines.specs.Records.{with_read_bid}

abbrev pub segments : Listing Segment Bid
segments = record { x = 32; form = segment; laws = segment_laws; heads = segment_space; add = with_segment }

abbrev pub bids : Listing BidEntries Book
bids = record { x = 40; form = bid; laws = bid_laws; heads = bid_open; add = with_read_bid }
