-- The shape (document 01, section "The bid book"): which books have a text. One or more bids, one or more segments in each, any number of
-- both, and numbers of at most thirteen digits, whatever the ranges.
use Rattle.std.specs.Prelude.{◌≤◌, ◌≡◌, nat_abs, length}
use Rattle.lists.specs.All.{All}
use Rattle.book.specs.declared.Segment.{Segment}
use Rattle.book.specs.Entries.{BidEntries, BookEntries}
use Rattle.forms.specs.Number.{ThirteenDigits}

pub record WellFormedSegment (s : Segment) : Type 0 where
  pub start : ThirteenDigits s.start.0
  pub end : ThirteenDigits s.end.0
  pub unit : ThirteenDigits s.unit.0
  pub fixed : ThirteenDigits (nat_abs s.fixed.0)

-- what a bid counts are its segments, and a book its bids
pub record WellFormedBid (b : BidEntries) : Type 0 where
  pub bidder : ThirteenDigits b.bidder
  pub carriage : ThirteenDigits b.carriage
  pub count : b.count ≡ length b.segments
  pub some : 1 ≤ b.count
  pub segments : All WellFormedSegment b.segments

pub record WellFormedBook (b : BookEntries) : Type 0 where
  pub demand : ThirteenDigits b.order.demand.0
  pub allowance : ThirteenDigits b.order.allowance.0
  pub count : b.count ≡ length b.bids
  pub some : 1 ≤ b.count
  pub bids : All WellFormedBid b.bids
