-- A bid with cents off, along the loop through its segments. Assumes nothing.
use Prim.Native.Nat.{ℕ, ◌≤◌, ◌<◌}
use native.Mathlib.Omega.{arith}
use mathlib.Core.Bool.{true}
use mathlib.Core.List.{map}
use mathlib.Core.Path.{◌≡◌}
use borrow.Author.Tests.{leb-true}
use lib.Dec.{leb}
use lib.ListN.{length, get_or, take}
use Rattle.lists.proofs.Everywhere.{every_within}
use Rattle.book.specs.declared.Segment.{Segment}
use Rattle.book.specs.declared.Bid.{Bid}
use Rattle.book.specs.Entries.{bid_entries}
use Rattle.book.proofs.Records.{no_segment}
use Rattle.discount.specs.Discount.{segment_off, has_cents}

-- the first i segments have so many cents off
pub record Lowered (cents : ℕ) (bid cheaper : Bid) (i : ℕ) : Type 0 where
  pub within : i ≤ bid.count
  pub bidder : cheaper.bidder ≡ bid.bidder
  pub carriage : cheaper.carriage ≡ bid.carriage
  pub count : cheaper.count ≡ bid.count
  pub held : length cheaper.segments ≡ 6
  pub segments : take i cheaper.segments ≡ map (segment_off cents) (take i bid.segments)

module _ (cents : ℕ) (bid : Bid) (few : bid.count ≤ 6) (all : length bid.segments ≡ 6) where
  pub cents_at : has_cents cents (bid_entries bid) ≡ true → (i : ℕ) → i < bid.count → cents ≤ (get_or bid.segments i no_segment).unit.0
  unfolding has_cents
  cents_at has i h =
      leb-true cents (get_or bid.segments i no_segment).unit.0
      (every_within (λ (s : Segment). leb cents s.unit.0) bid.segments i bid.count no_segment h (omega arith) has)
