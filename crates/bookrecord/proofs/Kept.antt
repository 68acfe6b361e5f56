-- A record filled with one entry after the other. Assumes nothing.
use Prim.Native.Nat.{ℕ}
use mathlib.Core.List.{List, [], ◌∷◌, ◌++◌, map}
use mathlib.Core.Path.{◌≡◌, sym, ap, ◌∙◌}
use lib.ListN.{length, length-map}
use Rattle.lists.specs.Padded.{padded, added}
use Rattle.lists.proofs.Filled.{added_padded, one_more, map_more, filled}
use Rattle.book.specs.declared.Segment.{Segment}
use Rattle.book.specs.declared.Bid.{Bid}
use Rattle.book.specs.declared.Book.{Book}
use Rattle.book.specs.Entries.{BidEntries}
use Rattle.booktext.specs.Record.{empty_segment, empty_bid, bid_record, book_record}
use Rattle.booktext.specs.BookForm.{BidHead, Head, bid_of, book_of}
use Rattle.bookrecord.specs.Adding.{with_segment, with_bid, with_segments, with_bids}

segment_added : (h : BidHead) (xs : List Segment) (s : Segment) → with_segment (bid_record (bid_of h xs)) s ≡ bid_record (bid_of h (xs ++ s ∷ []))
unfolding bid_record
segment_added h xs s = rw (one_more xs s, added_padded 6 empty_segment xs s)

bid_added : (h : Head) (xs : List BidEntries) (b : BidEntries) → with_bid (book_record (book_of h xs)) (bid_record b) ≡ book_record (book_of h (xs ++ b ∷ []))
unfolding book_record
bid_added h xs b =
    let bids = map bid_record xs in
    let stored : added 8 (padded 8 empty_bid bids) (length xs) (bid_record b) ≡ padded 8 empty_bid (map bid_record (xs ++ b ∷ [])) =
    ap (λ (n : ℕ). added 8 (padded 8 empty_bid bids) n (bid_record b)) (sym (length-map xs bid_record))
    ∙ added_padded 8 empty_bid bids (bid_record b)
    ∙ ap (padded 8 empty_bid) (map_more bid_record xs b) in
    rw (one_more xs b, stored)

-- a head's record, filled
pub segments_filled : (h : BidHead) (xs : List Segment) → with_segments (bid_record (bid_of h [])) xs ≡ bid_record (bid_of h xs)
segments_filled h xs = filled with_segment (λ ys. bid_record (bid_of h ys)) (segment_added h) xs []

pub bids_filled : (h : Head) (xs : List BidEntries) → with_bids (book_record (book_of h [])) xs ≡ book_record (book_of h xs)
bids_filled h xs = filled (λ r b. with_bid r (bid_record b)) (λ ys. book_record (book_of h ys)) (bid_added h) xs []

-- what the loops count
abbrev pub segment_count : Bid → ℕ
segment_count b = b.count

abbrev pub bid_count : Book → ℕ
bid_count b = b.count

-- a head counts no entry
pub no_segments : (h : BidHead) (r : Bid) → r ≡ bid_record (bid_of h []) → r.count ≡ 0
unfolding bid_record
no_segments h r e = ap segment_count e

pub no_bids : (h : Head) (r : Book) → r ≡ book_record (book_of h []) → r.count ≡ 0
unfolding book_record
no_bids h r e = ap bid_count e
