-- A turn takes one segment more, from the last to segment 0: after the last turn all segments of the supply function are taken.
use Rattle.std.proofs.Common.{◌≡◌, ℕ, suc, ◌+◌, ◌-◌, ◌<◌, ◌≤◌, List, length, get_or, drop, arith, rules}
use Rattle.std.proofs.Math.ListN.{drop_of_length-le}
use Rattle.book.specs.declared.Segment.{Segment}
use Rattle.book.specs.declared.Order.{Order}
use Rattle.book.specs.declared.Bid.{Bid}
use Rattle.book.specs.Entries.{bid_entries}
use Rattle.book.specs.Accepted.{AcceptedBid}
use Rattle.supply.specs.Supply.{segment0, supply_of}
use Rattle.supply.specs.Sound.{SoundSegment}
use Rattle.supply.proofs.Supply.{few_segments_lem}
use Rattle.supply.proofs.Accepted.{sound_segment_at}
use Rattle.charges.specs.declared.Sums.{Sums}
use Rattle.charges.specs.declared.Prices.{Prices}
use Rattle.charges.proofs.Sizes.{one_up_to}
use Rattle.completions.specs.Steps.{ExtendedByBid}
use Rattle.completions.proofs.Extending.{segments_none, segments_next}
use Rattle.completions.proofs.Table.with_bid.Goals as goal
use Rattle.completions.proofs.Table.with_bid.Goals.{After-with_segment}

sound : (bid : Bid) → AcceptedBid (bid_entries bid) → (j : ℕ) (s : Segment) → j < length (supply_of (bid_entries bid))
    → s ≡ get_or (supply_of (bid_entries bid)) j segment0 → SoundSegment s
sound bid accepted j s h is = rw is (sound_segment_at (bid_entries bid) accepted j h)

-- with no segment left
none_left : (order : Order) (at : ℕ) (prices : Prices) (table : List Sums) (supply : List Segment) (k : ℕ) → length supply ≤ k
    → ExtendedByBid order at prices (drop k supply) table table
none_left order at prices table supply k h = rw drop_of_length-le (segments_none order at prices table)

-- with one more
one_more : (c : After-with_segment)
    → ExtendedByBid c.args.turn.order c.args.turn.at c.args.prices (drop c.loop-j.j (supply_of (bid_entries c.args.bid))) c.args.self.now.classes
    c.with_segment.new.self.classes
one_more c =
    let s = c.segment_of-s in
    let is_sound = sound c.args.bid c.requires.accepted _ s.result s.ensures.number_in_bounds s.ensures.value in
    let next : c.loop-j.j + 1 ≡ suc c.loop-j.j = omega arith in
    let with_it = rw (c.charged.ensures, s.ensures.value) at c.with_segment.ensures in
    segments_next _ _ _ (supply_of (bid_entries c.args.bid)) (c.loop-j.j + 1) c.loop-j.j next s.ensures.number_in_bounds (rw s.ensures.value at is_sound)
    c.loop-j.invariant with_it

pub loop-j-init : goal.loop-j-init
loop-j-init c = search (rules, none_left, few_segments_lem)

pub charged-requires : goal.charged-requires
charged-requires c =
    let s = c.segment_of-s in
    record { sound = sound c.args.bid c.requires.accepted _ s.result s.ensures.number_in_bounds s.ensures.value; capped = c.requires.capped }

pub with_segment-requires : goal.with_segment-requires
with_segment-requires c =
    let s = c.segment_of-s in
    let is_sound = sound c.args.bid c.requires.accepted _ s.result s.ensures.number_in_bounds s.ensures.value in
    record { one = rw c.charged.ensures (one_up_to _ _ _ is_sound c.requires.capped); counted = rw c.charged.ensures is_sound.end_high }

pub loop-j-preserved : goal.loop-j-preserved
loop-j-preserved c =
    let more = (goal.at.loop-j-preserved c).After-with_segment in
    let same : c.loop-j.j - 1 + 1 ≡ c.loop-j.j = omega arith in
    rw same (one_more more)

pub returns-2 : goal.returns-2
returns-2 c =
    let last : c.loop-j.j ≡ 0 = omega arith in
    rw last at (one_more (goal.at.returns-2 c).After-with_segment)
