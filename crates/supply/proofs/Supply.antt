-- A supply function: how many segments it has, and which stands where. What lies above this crate cites these laws, and those of `Accepted`,
-- and never opens `supply_of`. Assumes nothing.
use Prim.Native.Nat.{ℕ, zero, suc, ◌+◌, ◌-◌, ◌≤◌, ◌<◌}
use native.Mathlib.Numerals.{sub-one}
use native.Mathlib.Omega.{arith}
use mathlib.Core.Bool.{Bool, true, false}
use mathlib.Core.List.Memᴰ.{head as here}
use mathlib.Core.List.{List, ◌∷◌, map, Memᴰ as In}
use mathlib.Core.Path.{◌≡◌, refl}
use lib.IntN.{pos}
use lib.ListN.{length, get_or, take, length-map}
use lib.Seq.{get_or-take, length-take-le}
use Rattle.lists.proofs.Slices.{take_most, map_at}
use Rattle.money.specs.Price.{price_of}
use Rattle.book.specs.declared.Segment.{Segment}
use Rattle.book.specs.declared.Bid.{Bid}
use Rattle.book.specs.Entries.{BidEntries, bid_entries}
use Rattle.book.proofs.Records.{no_segment}
use Rattle.supply.specs.Supply.{segment0, delivered, supply_of, on, offers, price_at, segment_number}
use Rattle.supply.proofs.Places.{first_on, number_found, number_nowhere}

-- segment 0, and the bid's own
pub supply_count : (b : BidEntries) → length (supply_of b) ≡ length b.segments + 1
unfolding supply_of
supply_count b = omega (arith, length-map b.segments (delivered b.carriage))

own_at : (carriage : ℕ) (ss : List Segment) (count j : ℕ) → count ≤ length ss → (j ≡ 0 → ⊥) → j ≤ count
    → delivered carriage (get_or ss (j - 1) no_segment) ≡ get_or (segment0 ∷ map (delivered carriage) (take count ss)) j segment0
own_at carriage ss count zero held f h = absurd (f refl)
own_at carriage ss count (suc j) held f h =
    let within : j < length (take count ss) = rw (length-take-le count ss held) h in
    rw (sub-one, map_at (delivered carriage) (take count ss) j no_segment segment0 within, get_or-take count ss j no_segment h)

-- The segments of a record's bid by their numbers, which go from 0 to the count of its own.
module _ (bid : Bid) where
  pub few_segments_lem : length (supply_of (bid_entries bid)) ≤ bid.count + 1
  few_segments_lem = omega (arith, supply_count (bid_entries bid), (take_most bid.count bid.segments).0)

  pub number_counted : (j : ℕ) → j < length (supply_of (bid_entries bid)) → j ≤ bid.count
  number_counted j h = omega (arith, few_segments_lem)

  module _ (held : bid.count ≤ length bid.segments) (j : ℕ) (within : j ≤ bid.count) where
    pub number_held : j < length (supply_of (bid_entries bid))
    number_held = omega (arith, supply_count (bid_entries bid), length-take-le bid.count bid.segments held)

    -- but for number 0 they are the bid's own, with its carriage
    pub segment_own : (j ≡ 0 → ⊥) → delivered bid.carriage.0 (get_or bid.segments (j - 1) no_segment) ≡ get_or (supply_of (bid_entries bid)) j segment0
    unfolding supply_of
    segment_own f = own_at bid.carriage.0 bid.segments bid.count j held f within

-- number 0 is segment 0
pub segment_none : (b : BidEntries) → segment0 ≡ get_or (supply_of b) 0 segment0
unfolding supply_of
segment_none b = refl

pub segment_0_in : (b : BidEntries) → In segment0 (supply_of b)
unfolding supply_of
segment_0_in b = here refl

-- Quantity 0 is on segment 0, at price 0.

pub nothing_offered : (b : BidEntries) → offers (supply_of b) 0 ≡ true
unfolding supply_of offers on
nothing_offered b = refl

pub nothing_free : (b : BidEntries) → price_at (supply_of b) 0 ≡ pos 0
unfolding supply_of on price_at price_of
nothing_free b = refl

-- no segment has a number above the count of the bid's own
pub number_few : (b : BidEntries) (r : ℕ) → segment_number (supply_of b) r ≤ length b.segments
number_few b r = go (offers (supply_of b) r) refl
  where
    go : (t : Bool) → offers (supply_of b) r ≡ t → segment_number (supply_of b) r ≤ length b.segments
    go true e = let (j, f) = first_on (supply_of b) r e in omega (arith, number_found (supply_of b) r j f, f.there, supply_count b)
    go false e = omega (arith, number_nowhere (supply_of b) r e)
