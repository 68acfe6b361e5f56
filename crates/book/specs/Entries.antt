-- What a record means: the entries within its counts. Entries past the counts are ignored.
use Rattle.std.specs.Prelude.{ℕ, List, map, ◌≡◌, take}
use Rattle.book.specs.declared.Segment.{Segment}
use Rattle.book.specs.declared.Bid.{Bid}
use Rattle.book.specs.declared.Order.{Order}
use Rattle.book.specs.declared.Book.{Book}

-- A bid: the bidder number, the carriage in cents for one blank, how many segments it has, and the segments; of a record, those that it
-- holds.
pub record BidEntries : Type 0 where
  pub bidder : ℕ
  pub carriage : ℕ
  pub count : ℕ
  pub segments : List Segment

-- A bid book: the order, how many bids it has, and the bids; of a record, those that it holds.
pub record BookEntries : Type 0 where
  pub order : Order
  pub count : ℕ
  pub bids : List BidEntries

abbrev pub bid_entries : Bid → BidEntries
bid_entries b = record { bidder = b.bidder; carriage = b.carriage.0; count = b.count; segments = take b.count b.segments }

abbrev pub book_entries : Book → BookEntries
book_entries b = record { order = b.order; count = b.count; bids = map bid_entries (take b.count b.bids) }

-- Document 01's "same book": two records agree in the order, the counts and every entry within the counts.
abbrev pub SameBook : Book → Book → Type 0
SameBook a b = book_entries a ≡ book_entries b
