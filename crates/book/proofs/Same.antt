-- The same book gets the same answers, and entries past the counts are ignored. Assumes nothing.
use Prim.Native.Nat.{ℕ, ◌≤◌}
use mathlib.Core.Path.{◌≡◌, sym, ap, ◌∙◌}
use lib.ListN.{set, take, get_or}
use lib.Seq.{take-set-le, map-set_same}
use Rattle.lists.proofs.Slices.{map_take}
use Rattle.book.specs.declared.Segment.{Segment}
use Rattle.book.specs.declared.Bid.{Bid}
use Rattle.book.specs.declared.Book.{Book}
use Rattle.book.specs.Entries.{bid_entries, book_entries, SameBook}
use Rattle.book.specs.Rules.{book_verdict}
use Rattle.book.proofs.Records.{no_bid}

pub same_verdict : (a b : Book) → SameBook a b → book_verdict (book_entries a) ≡ book_verdict (book_entries b)
same_verdict a b e = ap book_verdict e

-- a bid stored past the count
pub past_bids : (b : Book) (i : ℕ) (bid : Bid) → b.count ≤ i
    → SameBook (record { order = b.order; count = b.count; bids = set b.bids i bid }) b
past_bids b i bid h =
    rw (take-set-le b.count b.bids i bid h)

-- a segment of a bid stored past the bid's count
abbrev pub with_segment : Bid → ℕ → Segment → Bid
with_segment b j s = record { bidder = b.bidder; carriage = b.carriage; count = b.count; segments = set b.segments j s }

past_segment : (b : Bid) (j : ℕ) (s : Segment) → b.count ≤ j → bid_entries (with_segment b j s) ≡ bid_entries b
past_segment b j s h =
    rw (take-set-le b.count b.segments j s h)

pub past_segments : (b : Book) (i j : ℕ) (s : Segment) → (get_or b.bids i no_bid).count ≤ j
    → SameBook (record { order = b.order; count = b.count; bids = set b.bids i (with_segment (get_or b.bids i no_bid) j s) }) b
past_segments b i j s h =
    let bid = get_or b.bids i no_bid in
    let stored = set b.bids i (with_segment bid j s) in
    let same = map-set_same bid_entries b.bids i (with_segment bid j s) no_bid (past_segment bid j s h) in
    let within = map_take bid_entries b.count stored ∙ ap (take b.count) same ∙ sym (map_take bid_entries b.count b.bids) in
    rw within
