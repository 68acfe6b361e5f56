-- For the contracts in src/first.rt: a choice of a segment of each bid, and one with another segment for a bidder.
use Rattle.std.specs.Prelude.{ℕ, ◌<◌, ◌≡◌, length, get_or}
use mathlib.Core.List.{List, [], Memᴰ as In}
use Rattle.book.specs.declared.Segment.{Segment}
use Rattle.book.specs.declared.Bid.{Bid}
use Rattle.book.specs.Entries.{bid_entries}
use Rattle.book.specs.Accepted.{AcceptedBid}
use Rattle.choicerecord.specs.declared.Choice.{Choice}
use Rattle.choicerecord.specs.Records.{segment_at}

-- c is complete: it has a segment of each of the supply functions, in book order
pub record ChosenFrom (supplies : List (List Segment)) (c : Choice) : Type 0 where
  pub all : c.count ≡ length supplies
  pub each : (i : ℕ) → i < c.count → In (segment_at c i) (get_or supplies i [])

-- what `with_number` asks: a choice for bidder i among others, and an accepted bid
pub record HasBidder (c : Choice) (i : ℕ) (bid : Bid) : Type 0 where
  pub bidder : i < c.count
  pub accepted : AcceptedBid (bid_entries bid)

-- what it does: bidder i has a segment of this supply function, and the others have theirs
pub record ExchangedFrom (supply : List Segment) (c : Choice) (i : ℕ) (r : Choice) : Type 0 where
  pub count : r.count ≡ c.count
  pub here : In (segment_at r i) supply
  pub others : (k : ℕ) → (k ≡ i → ⊥) → segment_at r k ≡ segment_at c k
