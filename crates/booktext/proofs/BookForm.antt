-- The laws of the bid book's form, part by part, and that every text has a reading. Assumes nothing.
use Prim.Native.Nat.{ℕ}
use native.Mathlib.Omega.{arith}
use mathlib.Core.List.{List, ◌++◌, append_assoc}
use mathlib.Core.Path.{refl, sym, subst}
use lib.IntN.{ℤ}
use Rattle.forms.specs.Bytes.{ascii}
use Rattle.forms.specs.Shape.{Reading}
use Rattle.forms.specs.Combined.{sequence}
use Rattle.forms.specs.Spaced.{Numbers, numbers}
use Rattle.forms.specs.Tests.{NoDigit}
use Rattle.forms.proofs.Form.{Laws, Next, any}
use Rattle.forms.proofs.Word.{word_laws}
use Rattle.forms.proofs.Signed.{signed_laws}
use Rattle.forms.proofs.Framed.{framed_laws}
use Rattle.forms.proofs.Spaced.{numbers_laws}
use Rattle.forms.proofs.Sequence.{Follows, sequence_laws}
use Rattle.forms.proofs.Via.{Same, via_laws}
use Rattle.forms.proofs.Many.{FirstByte}
use Rattle.forms.proofs.Some.{one_or_more_laws, one_or_more_headed}
use Rattle.forms.proofs.Whole.{reading}
use Rattle.book.specs.declared.Segment.{Segment}
use Rattle.book.specs.Entries.{BidEntries, BookEntries}
use Rattle.booktext.specs.BookText.{segment_text, bid_head, bid_text, book_head, book_text}
use Rattle.booktext.specs.WellFormed.{WellFormedSegment, WellFormedBid, WellFormedBook}
use Rattle.booktext.specs.BookForm.{segment_numbers, fixed_close, to_segment, segment, segments, bid_further, BidHead, bid_head_lem, bid_of, segments_line, bid, bids, book_further, Head, head, book_of, book}

-- a segment
pub segment_numbers_laws : Laws segment_numbers
segment_numbers_laws = framed_laws (ascii " (seg ") (numbers_laws 2) (ascii " ") (λ r l k. omega arith)

fixed_laws : Laws fixed_close
fixed_laws = sequence_laws signed_laws (word_laws (ascii ")")) (λ b r v h. (λ l k. omega arith, λ l k. omega arith))

abbrev from_segment : Segment → Numbers 2 × (ℤ × Unit {0})
from_segment s = (((s.start.0, s.end.0), s.unit.0), (s.fixed.0, tt))

same_segment : Same (sequence segment_numbers fixed_close) to_segment from_segment WellFormedSegment segment_text
unfolding segment_text
same_segment = record {
  to_valid = λ s v. ((((omega arith, v.start), (omega arith, v.end)), (omega arith, v.unit)), (v.fixed, tt));
  back = λ s v. refl;
  from_valid = λ x v. record { start = v.0.0.0.1; end = v.0.0.1.1; unit = v.0.1.1; fixed = v.1.0 };
  same_text = λ x v. simp append_assoc;
}

pub segment_laws : Laws segment
segment_laws = via_laws (sequence_laws segment_numbers_laws fixed_laws (λ b r v h. any (fixed_close.text b ++ r))) same_segment

pub segment_space : FirstByte 32 segment
unfolding segment_text
segment_space s v = (_, refl)

pub segments_laws : Laws segments
segments_laws = one_or_more_laws 32 segment segment_laws segment_space tt

-- a bid's line
pub bid_head_laws : Laws bid_head_lem
bid_head_laws = sequence_laws (word_laws (ascii "(bid ")) (numbers_laws bid_further) (λ b r v h. any ((numbers bid_further).text b ++ r))

segments_line_laws : Laws segments_line
segments_line_laws = sequence_laws segments_laws (word_laws (ascii ")\n")) (λ b r v h. (tt, λ e. omega (arith, e)))

head_segments : Follows bid_head_lem segments_line
head_segments b r v h =
    let s = one_or_more_headed 32 segment segment_laws segment_space b.0 v.0 in
    subst (λ (t : List ℕ). Next NoDigit ((t ++ ascii ")\n") ++ r)) (sym s.1) (λ l k. omega arith)

abbrev from_bid : BidEntries → BidHead × (List Segment × Unit {0})
from_bid b = ((tt, (b.bidder, b.carriage)), (b.segments, tt))

same_bid : Same (sequence bid_head_lem segments_line) (λ x. bid_of x.0 x.1.0) from_bid WellFormedBid bid_text
unfolding bid_head bid_text
same_bid = record {
  to_valid = λ b v. ((tt, ((omega arith, v.bidder), (omega arith, v.carriage))), ((omega (arith, v.count, v.some), v.segments), tt));
  back = λ b v. rw (sym v.count);
  from_valid = λ x v. record { bidder = v.0.1.0.1; carriage = v.0.1.1.1; count = refl; some = v.1.0.0; segments = v.1.0.1 };
  same_text = λ x v. simp append_assoc;
}

pub bid_laws : Laws bid
bid_laws = via_laws (sequence_laws bid_head_laws segments_line_laws head_segments) same_bid

pub bid_open : FirstByte 40 bid
unfolding bid_head bid_text
bid_open b v = (_, refl)

bids_laws : Laws bids
bids_laws = one_or_more_laws 40 bid bid_laws bid_open tt

-- the book
pub head_laws : Laws head
head_laws = framed_laws (ascii "(demand ") (numbers_laws book_further) (ascii ")\n") (λ r l k. omega arith)

abbrev from_book : BookEntries → Head × List BidEntries
from_book b = ((b.order.demand.0, b.order.allowance.0), b.bids)

same_book : Same (sequence head bids) (λ x. book_of x.0 x.1) from_book WellFormedBook book_text
unfolding book_head book_text
same_book = record {
  to_valid = λ b v. (((omega arith, v.demand), (omega arith, v.allowance)), (omega (arith, v.count, v.some), v.bids));
  back = λ b v. rw (sym v.count);
  from_valid = λ x v. record { demand = v.0.0.1; allowance = v.0.1.1; count = refl; some = v.1.0; bids = v.1.1 };
  same_text = λ x v. simp append_assoc;
}

pub book_laws : Laws book
book_laws = via_laws (sequence_laws head_laws bids_laws (λ b r v h. any (bids.text b ++ r))) same_book

-- every text has a reading
pub book_reading : (t : List ℕ) → Reading WellFormedBook book_text t
book_reading t = reading book_laws t
