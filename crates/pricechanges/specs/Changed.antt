-- A bid with changed segments and a book with changed bids, the rest as it was; R says what the change is.
use Rattle.std.specs.Prelude.{List, ◌≡◌}
use Rattle.book.specs.declared.Segment.{Segment}
use Rattle.book.specs.Entries.{BidEntries, BookEntries}

pub record BidChanged (R : List Segment → List Segment → Type 0) (b b' : BidEntries) : Type 0 where
  pub bidder : b'.bidder ≡ b.bidder
  pub carriage : b'.carriage ≡ b.carriage
  pub count : b'.count ≡ b.count
  pub segments : R b.segments b'.segments

pub record BookChanged (R : List BidEntries → List BidEntries → Type 0) (b b' : BookEntries) : Type 0 where
  pub order : b'.order ≡ b.order
  pub count : b'.count ≡ b.count
  pub bids : R b.bids b'.bids
