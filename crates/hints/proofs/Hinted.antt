-- The bids of a book that hints are asked for are accepted, and so their segments are sound. Assumes nothing.
use Prim.Native.Nat.{ℕ, ◌<◌}
use mathlib.Core.List.{List}
use mathlib.Core.Path.{◌≡◌}
use lib.ListN.{length, get_or, take}
use Rattle.lists.proofs.All.{all_at, map_all}
use Rattle.book.specs.declared.Segment.{Segment}
use Rattle.book.specs.declared.Bid.{Bid}
use Rattle.book.specs.declared.Book.{Book}
use Rattle.book.specs.Entries.{bid_entries}
use Rattle.book.specs.Accepted.{AcceptedBid}
use Rattle.book.proofs.Records.{no_bid}
use Rattle.supply.specs.Supply.{segment0, supply_of}
use Rattle.supply.specs.Sound.{SoundSegment}
use Rattle.supply.proofs.Accepted.{sound_segment_at}
use Rattle.hints.specs.Asked.{HintedBid, HintedBookBy}

-- each bid that the record lists
pub hinted_bid : {b : Book} {price : ℕ} → HintedBookBy b price → (bids : List Bid) → bids ≡ take b.count b.bids → (i : ℕ) → i < length bids
    → HintedBid (get_or bids i no_bid) price
hinted_bid asked bids listed i h = record {
  accepted = all_at (λ (bid : Bid). AcceptedBid (bid_entries bid)) no_bid bids (rw listed (map_all bid_entries AcceptedBid _ asked.hinted.bids)) i h;
  capped = asked.capped;
}

-- what `segment_of` answers of an accepted bid
pub hinted_segment : (bid : Bid) → AcceptedBid (bid_entries bid) → (j : ℕ) (s : Segment)
    → (j < length (supply_of (bid_entries bid))) × (s ≡ get_or (supply_of (bid_entries bid)) j segment0) → SoundSegment s
hinted_segment bid accepted j s found = rw found.1 (sound_segment_at (bid_entries bid) accepted j found.0)
