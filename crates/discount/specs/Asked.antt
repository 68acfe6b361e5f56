-- For the contracts of this crate: what its functions ask, and what they tell.
use Rattle.std.specs.Prelude.{ℕ, ◌≤◌, Bool, true, ◌&&◌, ◌≡◌, leb}
use Rattle.lists.specs.Every.{every}
use Rattle.refusal.specs.Verdict.{Accepted}
use Rattle.book.specs.declared.Segment.{Segment}
use Rattle.book.specs.declared.Bid.{Bid}
use Rattle.book.specs.declared.Book.{Book}
use Rattle.book.specs.Entries.{BidEntries, bid_entries, book_entries}
use Rattle.book.specs.Rules.{segment_in_range, start_not_negative, book_verdict}
use Rattle.discount.specs.Discount.{segment_off, has_cents, leaves_accepted, book_off}
use Rattle.discount.specs.Named.{Named}

-- the unit price of a segment has so many cents, and without them rule 8 is kept
abbrev pub takes : ℕ → Segment → Bool
takes cents s = leb cents s.unit.0 && start_not_negative (segment_off cents s)

-- what `most_off` asks: a segment that keeps rules 5 and 8
pub record KeepsRules (s : Segment) : Type 0 where
  pub ranged : segment_in_range s ≡ true
  pub not_negative : start_not_negative s ≡ true

-- so many cents can be taken off a segment exactly if they are at most `most`
abbrev pub MostOff : Segment → ℕ → Type 0
MostOff s most = (cents : ℕ) → takes cents s ≡ leb cents most

-- off all segments of a bid
abbrev pub Largest : BidEntries → ℕ → Type 0
Largest b most = (cents : ℕ) → every (takes cents) b.segments ≡ leb cents most

-- what `bid_off` asks: the record holds each segment that the bid counts, and each unit price has so many cents
pub record BidHas (bid : Bid) (cents : ℕ) : Type 0 where
  pub held : bid.count ≤ 6
  pub has : has_cents cents (bid_entries bid) ≡ true

-- what `book_off` asks: an accepted book, the index of a bidder's bid, and a discount that leaves the book accepted
pub record CanTake (book : Book) (at cents : ℕ) : Type 0 where
  pub bidder : ℕ
  pub accepted : book_verdict (book_entries book) ≡ Accepted
  pub named : Named bidder (book_entries book).bids at
  pub leaves : leaves_accepted (book_entries book) bidder cents ≡ true

-- what it gives: the book with the discount of the bidder whose bid has that index
abbrev pub TakenOff : Book → ℕ → ℕ → Book → Type 0
TakenOff book at cents r = (bidder : ℕ) → Named bidder (book_entries book).bids at → book_entries r ≡ book_off (book_entries book) bidder cents
