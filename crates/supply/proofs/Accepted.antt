-- The supply function of an accepted bid: its segments are sound, and how large its quantities and prices are. Assumes nothing.
use Prim.Native.Nat.{ℕ, ◌+◌, ◌^◌, ◌≤◌, ◌<◌}
use native.Mathlib.Omega.{arith}
use mathlib.Core.Bool.{true}
use mathlib.Core.List.{List, [], ◌∷◌, map}
use mathlib.Core.Path.{◌≡◌, refl, ◌∙◌}
use lib.IntN.{nat_abs}
use lib.ListN.{length, get_or}
use Rattle.lists.specs.All.{All}
use Rattle.lists.proofs.All.{all_at, all_from, all_map, all_tested}
use Rattle.lists.proofs.Everywhere.{every_within}
use Rattle.lists.proofs.Members.{in_at}
use Rattle.money.specs.Price.{price_of}
use Rattle.money.proofs.Bounds as bounds
use Rattle.book.specs.declared.Segment.{Segment}
use Rattle.book.specs.declared.Bid.{Bid}
use Rattle.book.specs.Entries.{BidEntries, bid_entries}
use Rattle.book.specs.Rules.{segment_in_range, segments_rise, start_not_negative, price_on}
use Rattle.book.specs.Accepted.{AcceptedBid}
use Rattle.book.proofs.Records.{no_segment}
use Rattle.book.proofs.InRange.{in_range}
use Rattle.book.proofs.Rising.{step}
use Rattle.supply.specs.Supply.{segment0, delivered, supply_of, supplies_of, on, offers, price_at}
use Rattle.supply.specs.Places.{FirstOn}
use Rattle.supply.specs.Sound.{most_blanks, SoundSegment}
use Rattle.supply.proofs.Places.{first_on}
use Rattle.supply.proofs.Offers.{found_there}
use Rattle.supply.proofs.OneSegment.{segment_at, on_high, price_there, one_there, inside_there}
use Rattle.supply.proofs.Carriage.{start_delivered, delivered_rise}
use Rattle.supply.proofs.Sound.{SoundSupply}

-- The ranges of an accepted book's segments, with carriage; segment 0 keeps them too.

abbrev most_carriage : ℕ
most_carriage = 10000

abbrev dearest : ℕ
dearest = 1010000

abbrev most_fixed : ℕ
most_fixed = 1000000000000

-- and so the most that a quantity costs
abbrev pub most_cents : ℕ
most_cents = 2010000000000

record Limits (s : Segment) : Type 0 where
  pub end_high : s.end.0 ≤ most_blanks
  pub unit_high : s.unit.0 ≤ dearest
  pub fixed_size : nat_abs s.fixed.0 ≤ most_fixed

own_limits : (carriage : ℕ) → carriage ≤ most_carriage → (s : Segment) → segment_in_range s ≡ true → Limits (delivered carriage s)
own_limits carriage h s e =
    let r = in_range s e in
    record { end_high = r.end_high; unit_high = omega (arith, r.unit_high); fixed_size = r.fixed_size }

-- so that a unit price and the carriage of a record's bid do not wrap
pub carriage_fits : (bid : Bid) → AcceptedBid (bid_entries bid) → bid.count ≤ length bid.segments → (i : ℕ) → i < bid.count
    → (get_or bid.segments i no_segment).unit.0 + bid.carriage.0 < 2 ^ 64
carriage_fits bid accepted held i h =
    let range = in_range _ (every_within segment_in_range bid.segments i bid.count no_segment h held accepted.ranges) in
    omega (arith, range.unit_high, accepted.carriage_high)

-- Segments that rise are sound.

segments_sound : (before : ℕ) (ss : List Segment) → segments_rise before ss ≡ true → All Limits ss → All (λ s. start_not_negative s ≡ true) ss → All SoundSegment ss
unfolding start_not_negative
segments_sound before [] rises limits starts = tt
segments_sound before (s ∷ ss) rises limits starts =
    let t = step before s ss rises in
    let l = limits.0 in
    let this : SoundSegment s = record {
      order = t.order;
      end_high = l.end_high;
      unit_high = omega (arith, l.unit_high);
      fixed_size = omega (arith, l.fixed_size);
      not_negative = starts.0;
    } in
    (this, segments_sound s.end.0 ss t.rest limits.1 starts.1)

pub nothing_sound : SoundSegment segment0
unfolding price_of
nothing_sound = record { order = omega arith; end_high = omega arith; unit_high = omega arith; fixed_size = omega arith; not_negative = refl }

-- A quantity that is on offer, and its price.
pub record Small (ss : List Segment) (r : ℕ) : Type 0 where
  pub quantity : r ≤ most_blanks
  pub price : nat_abs (price_at ss r) ≤ most_cents

-- An accepted bid: segment 0 ends at 0, and its own segments, with its carriage, rise above it.
module _ (b : BidEntries) (accepted : AcceptedBid b) where
  abbrev own : List Segment
  own = map (delivered b.carriage) b.segments

  rises : segments_rise 0 own ≡ true
  rises = delivered_rise b.carriage 0 b.segments ∙ accepted.rises

  ranges : All Limits own
  ranges =
      all_map _ Limits b.segments
      (all_from _ _ (own_limits b.carriage accepted.carriage_high) b.segments (all_tested segment_in_range b.segments accepted.ranges))

  not_negative : All (λ s. start_not_negative s ≡ true) own
  not_negative =
      all_map _ _ b.segments
      (all_from _ _ (start_delivered b.carriage) b.segments (all_tested start_not_negative b.segments accepted.not_negative))

  limits : All Limits (supply_of b)
  unfolding supply_of
  limits = (record { end_high = omega arith; unit_high = omega arith; fixed_size = omega arith }, ranges)

  pub sound_supply : SoundSupply (supply_of b)
  unfolding supply_of
  sound_supply = record {
    each = (nothing_sound, segments_sound 0 own rises ranges not_negative);
    one_price = λ s r m o. price_there s r segment0 own rises m o;
    one_inside = λ s r m o. inside_there s r segment0 own rises m o;
  }

  pub sound_segment_at : (j : ℕ) → j < length (supply_of b) → SoundSegment (get_or (supply_of b) j segment0)
  sound_segment_at j h = all_at SoundSegment segment0 (supply_of b) sound_supply.each j h

  pub found_small : (r j : ℕ) → FirstOn (supply_of b) r j → r ≤ most_blanks
  found_small r j f = omega (arith, on_high _ r f.here, (sound_segment_at j f.there).end_high)

  pub supply_small : (r : ℕ) → offers (supply_of b) r ≡ true → Small (supply_of b) r
  supply_small r e =
      let (j, f) = first_on (supply_of b) r e in
      let l = all_at Limits segment0 (supply_of b) limits j f.there in
      let few = found_small r j f in
      record {
        quantity = few;
        price = rw (found_there (supply_of b) r j f).1 (bounds.price_small _ r _ dearest most_blanks most_fixed l.unit_high few l.fixed_size);
      }

  -- a quantity is on one segment at most, and has the price there
  pub the_price : (r j : ℕ) → j < length (supply_of b) → on (segment_at (supply_of b) j) r ≡ true
      → price_at (supply_of b) r ≡ price_on (segment_at (supply_of b) j) r
  the_price r j h o = sound_supply.one_price _ r (in_at segment0 (supply_of b) j h) o

  pub one_segment : (r j k : ℕ) → j < length (supply_of b) → k < length (supply_of b) → on (segment_at (supply_of b) j) r ≡ true
      → on (segment_at (supply_of b) k) r ≡ true → j ≡ k
  unfolding supply_of
  one_segment r j k hj hk oj ok = one_there segment0 own j k r rises hj hk oj ok

pub sound_supplies : (bs : List BidEntries) → All AcceptedBid bs → All SoundSupply (supplies_of bs)
sound_supplies bs a = all_map supply_of SoundSupply bs (all_from AcceptedBid (λ b. SoundSupply (supply_of b)) sound_supply bs a)
