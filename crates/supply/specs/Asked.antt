-- For the contract of `segment_of`: what it asks of a bid and a number.
use Rattle.std.specs.Prelude.{ℕ, ◌≤◌}
use Rattle.book.specs.declared.Bid.{Bid}
use Rattle.book.specs.Entries.{bid_entries}
use Rattle.book.specs.Accepted.{AcceptedBid}

-- the bid is accepted, so that the record holds each segment that it counts, and the number is 0 or that of one of them
pub record HasSegment (bid : Bid) (number : ℕ) : Type 0 where
  pub accepted : AcceptedBid (bid_entries bid)
  pub within : number ≤ bid.count
