-- The bid book's text as a form of text, part by part.
use Rattle.std.specs.Prelude.{ℕ, List, ℤ, length}
use Rattle.forms.specs.Bytes.{ascii}
use Rattle.forms.specs.Form.{Form}
use Rattle.forms.specs.Word.{word}
use Rattle.forms.specs.Combined.{sequence, via, framed}
use Rattle.forms.specs.Many.{one_or_more}
use Rattle.forms.specs.Signed.{signed}
use Rattle.forms.specs.Spaced.{Numbers, numbers}
use Rattle.book.specs.declared.Segment.{Segment}
use Rattle.book.specs.declared.Order.{Order}
use Rattle.book.specs.Entries.{BidEntries, BookEntries}
use Rattle.booktext.specs.BookText.{segment_text, bid_text, book_text}
use Rattle.booktext.specs.WellFormed.{WellFormedSegment, WellFormedBid, WellFormedBook}

-- a segment: the space before it, the word, three numbers, and one that may have a sign
abbrev pub segment_numbers : Form (Numbers 2)
segment_numbers = framed (ascii " (seg ") (numbers 2) (ascii " ")

abbrev pub fixed_close : Form (ℤ × Unit {0})
fixed_close = sequence signed (word (ascii ")"))

abbrev pub to_segment : Numbers 2 × (ℤ × Unit {0}) → Segment
to_segment x =
    record { start = record { 0 = x.0.0.0 }; end = record { 0 = x.0.0.1 }; unit = record { 0 = x.0.1 }; fixed = record { 0 = x.1.0 } }

abbrev pub segment : Form Segment
segment = via (sequence segment_numbers fixed_close) to_segment WellFormedSegment segment_text

-- one or more, each beginning with its space
abbrev pub segments : Form (List Segment)
segments = one_or_more 32 segment

-- what stands before them: the bidder, and one further number, the carriage
abbrev pub bid_further : ℕ
bid_further = 1

abbrev pub BidHead : Type 0
BidHead = Unit {0} × Numbers bid_further

abbrev pub bid_head_lem : Form BidHead
bid_head_lem = sequence (word (ascii "(bid ")) (numbers bid_further)

-- a bid's line
abbrev pub bid_of : BidHead → List Segment → BidEntries
bid_of h xs = record { bidder = h.1.0; carriage = h.1.1; count = length xs; segments = xs }

abbrev pub segments_line : Form (List Segment × Unit {0})
segments_line = sequence segments (word (ascii ")\n"))

abbrev pub bid : Form BidEntries
bid = via (sequence bid_head_lem segments_line) (λ x. bid_of x.0 x.1.0) WellFormedBid bid_text

-- one or more, each beginning with `(`
abbrev pub bids : Form (List BidEntries)
bids = one_or_more 40 bid

-- what stands before them: the line of the demand, and one further number, the allowance
abbrev pub book_further : ℕ
book_further = 1

abbrev pub Head : Type 0
Head = Numbers book_further

abbrev pub head : Form Head
head = framed (ascii "(demand ") (numbers book_further) (ascii ")\n")

abbrev pub order_of : Head → Order
order_of h = record { demand = record { 0 = h.0 }; allowance = record { 0 = h.1 } }

-- the book
abbrev pub book_of : Head → List BidEntries → BookEntries
book_of h xs = record { order = order_of h; count = length xs; bids = xs }

abbrev pub book : Form BookEntries
book = via (sequence head bids) (λ x. book_of x.0 x.1) WellFormedBook book_text
