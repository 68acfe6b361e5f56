-- For the contracts of the functions that parse a part of a book: the record of what was parsed.
use Rattle.std.specs.Prelude.{[]}
use Rattle.book.specs.declared.Bid.{Bid}
use Rattle.book.specs.declared.Book.{Book}
use Rattle.book.specs.Entries.{BidEntries}
use Rattle.booktext.specs.Record.{bid_record, book_record}
use Rattle.booktext.specs.BookForm.{BidHead, bid_of, Head, book_of}
use Rattle.bookrecord.specs.Adding.{with_bid}

-- a head, with no entry
abbrev pub bid_started : BidHead → Bid
bid_started h = bid_record (bid_of h [])

abbrev pub book_started : Head → Book
book_started h = book_record (book_of h [])

-- a book with the record of a bid more
abbrev pub with_read_bid : Book → BidEntries → Book
with_read_bid r b = with_bid r (bid_record b)
