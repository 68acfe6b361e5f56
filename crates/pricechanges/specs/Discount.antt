-- A discount, as document 02, change 7, has it: a bidder takes the same amount, at least one cent, off the unit price of all its segments.
use Rattle.std.specs.Prelude.{ℕ, ◌+◌, ◌≤◌, ◌≡◌}
use Rattle.lists.specs.Pairwise.{Pairwise, ChangedAt}
use Rattle.book.specs.declared.Segment.{Segment}
use Rattle.book.specs.Entries.{BidEntries, BookEntries}
use Rattle.pricechanges.specs.Changed.{BidChanged, BookChanged}

-- so many cents off the unit price of a segment
pub record CheaperSegment (cents : ℕ) (s s' : Segment) : Type 0 where
  pub start : s'.start ≡ s.start
  pub end : s'.end ≡ s.end
  pub unit : s'.unit.0 + cents ≡ s.unit.0
  pub fixed : s'.fixed ≡ s.fixed

-- off that of all segments of a bid
abbrev pub CheaperBid : ℕ → BidEntries → BidEntries → Type 0
CheaperBid cents = BidChanged (Pairwise (CheaperSegment cents))

-- the bid with index i has the discount
pub record Discounted (cents i : ℕ) (b b' : BookEntries) : Type 0 where
  pub one_cent : 1 ≤ cents
  pub changed : BookChanged (ChangedAt i (CheaperBid cents)) b b'
