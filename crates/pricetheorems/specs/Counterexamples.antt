-- The books by which it is shown what bidders are not told. Two blanks are wanted, and not one more. Bidder 1 sells one blank or two at 10
-- cents each, bidder 2 one blank at 11.
use Rattle.std.specs.Prelude.{ℕ, List, [], ◌∷◌, ◌≡◌, pos, length}
use Rattle.book.specs.declared.Segment.{Segment}
use Rattle.book.specs.Entries.{BidEntries, BookEntries}
use Rattle.clearing.specs.declared.Clearing.{Clearing}
use Rattle.pricetheorems.specs.Told.{Covered, quantity_in, total_in}

-- so many blanks and no others, at a unit price
abbrev pub lot : ℕ → ℕ → Segment
lot n unit = record { start = record { 0 = n }; end = record { 0 = n }; unit = record { 0 = unit }; fixed = record { 0 = pos 0 } }

abbrev pub bid_of : ℕ → List Segment → BidEntries
bid_of bidder segments = record { bidder = bidder; carriage = 0; count = length segments; segments = segments }

abbrev pub two_blanks : List Segment → List Segment → BookEntries
two_blanks first second = record {
  order = record { demand = record { 0 = 2 }; allowance = record { 0 = 0 } };
  count = 2;
  bids = bid_of 1 first ∷ bid_of 2 second ∷ [];
}

abbrev pub as_bid : BookEntries
as_bid = two_blanks (lot 1 10 ∷ lot 2 10 ∷ []) (lot 1 11 ∷ [])

-- bidder 2 takes one cent off; it takes two cents off
abbrev pub one_cent_off : BookEntries
one_cent_off = two_blanks (lot 1 10 ∷ lot 2 10 ∷ []) (lot 1 10 ∷ [])

abbrev pub two_cents_off : BookEntries
two_cents_off = two_blanks (lot 1 10 ∷ lot 2 10 ∷ []) (lot 1 9 ∷ [])

-- bidder 1 takes two cents off its first segment alone
abbrev pub one_segment_off : BookEntries
one_segment_off = two_blanks (lot 1 8 ∷ lot 2 10 ∷ []) (lot 1 11 ∷ [])

-- what clearing answers: covered, so many blanks of each bidder, at this total
pub record Awards (c : Clearing) (first second cents : ℕ) : Type 0 where
  pub covered : Covered c
  pub first_sells : quantity_in c 0 ≡ first
  pub second_sells : quantity_in c 1 ≡ second
  pub total : total_in c ≡ pos cents
