-- A choice: without anything sold, with a segment more, and with one in the place of another. Assumes nothing.
use Prim.Native.Nat.{ℕ, ◌+◌, ◌-◌, ◌≤◌, ◌<◌}
use native.Mathlib.Decide.{ℕ_discrete}
use native.Mathlib.Omega.{arith}
use mathlib.Core.List.{[], ◌∷◌}
use mathlib.Core.Path.{◌≡◌, ap, sym}
use lib.ListN.{length, get_or, set, replicate, get_or-replicate}
use lib.Seq.{get_or-set_same, get_or-set_other}
use Rattle.lists.specs.All.{All}
use Rattle.lists.specs.Latest.{latest}
use Rattle.lists.proofs.Latest.{latest_none, length_latest, latest_set, latest_all}
use Rattle.lists.proofs.Sums.{sum_zero, sum_exchanged, one_within}
use Rattle.book.specs.declared.Segment.{Segment}
use Rattle.supply.specs.Supply.{segment0}
use Rattle.supply.specs.Sound.{SoundSegment}
use Rattle.supply.proofs.Accepted.{nothing_sound}
use Rattle.choices.proofs.Sums.{adds_starts, adds_ends, starts_small, ends_small}
use Rattle.choicerecord.specs.declared.Choice.{Choice}
use Rattle.choicerecord.specs.Sound.{SoundChoice}
use Rattle.choicerecord.specs.Records.{segment_at, chosen}

pub nothing_chosen : (c : Choice) → c.count ≡ 0 → chosen c ≡ []
nothing_chosen c e = rw e (latest_none segment0 c.segments)

pub length_chosen : (c : Choice) → length (chosen c) ≡ c.count
length_chosen c = length_latest segment0 c.segments c.count

-- Each of its segments, how large its sums are, and that a bidder's segment counts for no more than they.
module _ (c : Choice) where
  pub sound_chosen : All SoundSegment (chosen c)
  sound_chosen = latest_all segment0 SoundSegment c.segments c.count c.sound.each

  pub starts_high : c.starts.0 ≤ 8000000
  starts_high = omega (arith, c.sound.starts_carried, starts_small (chosen c) sound_chosen, length_chosen c, c.sound.few)

  pub ends_high : c.ends.0 ≤ 8000000
  ends_high = omega (arith, c.sound.ends_carried, ends_small (chosen c) sound_chosen, length_chosen c, c.sound.few)

  pub start_within : (i : ℕ) → i < c.count → (segment_at c i).start.0 ≤ c.starts.0
  start_within i h = omega (arith, c.sound.starts_carried, one_within segment0 adds_starts c.segments c.count i h)

  pub end_within : (i : ℕ) → i < c.count → (segment_at c i).end.0 ≤ c.ends.0
  end_within i h = omega (arith, c.sound.ends_carried, one_within segment0 adds_ends c.segments c.count i h)

-- Segment 0 for each.
module _ (n : ℕ) (few : n ≤ 8) where
  pub nothing_at : (i : ℕ) → i < n → get_or (replicate 8 segment0) i segment0 ≡ segment0
  nothing_at i h = get_or-replicate 8 i segment0 segment0 (omega arith)

  pub sound_nothing : SoundChoice n (replicate 8 segment0) 0 0
  sound_nothing = record {
    few = few;
    each = λ i h. rw (nothing_at i h) nothing_sound;
    starts_carried = sym (sum_zero segment0 adds_starts (replicate 8 segment0) n (λ i h. ap (λ (s : Segment). s.start.0) (nothing_at i h)));
    ends_carried = sym (sum_zero segment0 adds_ends (replicate 8 segment0) n (λ i h. ap (λ (s : Segment). s.end.0) (nothing_at i h)));
  }

module _ (c : Choice) (s : Segment) (held : length c.segments ≡ 8) (new : SoundSegment s) where
  -- A segment for the next bidder.
  module _ (not_full : c.count < 8) where
    pub chosen_more : latest segment0 (set c.segments c.count s) (c.count + 1) ≡ s ∷ chosen c
    chosen_more = latest_set segment0 c.segments c.count s (omega arith)

    pub sound_more : (starts ends : ℕ) → starts ≡ c.starts.0 + s.start.0 → ends ≡ c.ends.0 + s.end.0
        → SoundChoice (c.count + 1) (set c.segments c.count s) starts ends
    sound_more starts ends e f = record {
      few = omega arith;
      each = each;
      starts_carried = rw chosen_more (omega (arith, c.sound.starts_carried));
      ends_carried = rw chosen_more (omega (arith, c.sound.ends_carried));
    }
      where
        each : (i : ℕ) → i < c.count + 1 → SoundSegment (get_or (set c.segments c.count s) i segment0)
        each i h = go (ℕ_discrete i c.count)
          where
            go : Dec (i ≡ c.count) → SoundSegment (get_or (set c.segments c.count s) i segment0)
            go (yes e) = rw (e, get_or-set_same c.segments c.count s segment0 (omega arith)) new
            go (no e) = rw (get_or-set_other c.segments c.count i s segment0 e) (c.sound.each i (omega arith))

  -- Another segment for bidder i: the sums lose what the one counts and gain what the other does.
  module _ (i : ℕ) (bidder : i < c.count) where
    here : i < length c.segments
    here = omega (arith, c.sound.few)

    pub sound_other : (starts ends : ℕ) → starts ≡ c.starts.0 - (segment_at c i).start.0 + s.start.0 → ends ≡ c.ends.0 - (segment_at c i).end.0 + s.end.0
        → SoundChoice c.count (set c.segments i s) starts ends
    sound_other starts ends e f = record {
      few = c.sound.few;
      each = each;
      starts_carried =
          omega (arith, start_within c i bidder, c.sound.starts_carried, sum_exchanged segment0 adds_starts c.segments c.count i s bidder here);
      ends_carried = omega (arith, end_within c i bidder, c.sound.ends_carried, sum_exchanged segment0 adds_ends c.segments c.count i s bidder here);
    }
      where
        each : (k : ℕ) → k < c.count → SoundSegment (get_or (set c.segments i s) k segment0)
        each k h = go (ℕ_discrete k i)
          where
            go : Dec (k ≡ i) → SoundSegment (get_or (set c.segments i s) k segment0)
            go (yes e) = rw (e, get_or-set_same c.segments i s segment0 here) new
            go (no e) = rw (get_or-set_other c.segments i k s segment0 e) (c.sound.each k h)
