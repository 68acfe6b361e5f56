-- For the contracts of this crate, of `meritorder` and of `search`: what the record of a choice holds.
use Rattle.std.specs.Prelude.{ℕ, ◌<◌, List, ◌≡◌, get_or}
use Rattle.lists.specs.Latest.{latest}
use Rattle.book.specs.declared.Segment.{Segment}
use Rattle.supply.specs.Supply.{segment0}
use Rattle.supply.specs.Sound.{SoundSegment}
use Rattle.choicerecord.specs.declared.Choice.{Choice}

-- the segment of bidder i; segment 0 stands past the end of the record
abbrev pub segment_at : Choice → ℕ → Segment
segment_at c i = get_or c.segments i segment0

-- the segments of the first n bidders, that of the latest bidder first
abbrev pub first_segments : Choice → ℕ → List Segment
first_segments c n = latest segment0 c.segments n

-- the chosen segments
abbrev pub chosen : Choice → List Segment
chosen c = first_segments c c.count

-- every bidder has segment 0
pub record SellsNothing (c : Choice) : Type 0 where
  pub each : (i : ℕ) → i < c.count → segment_at c i ≡ segment0

-- what `choose` asks: a choice of fewer than eight bidders, and a segment
pub record Choosable (c : Choice) (s : Segment) : Type 0 where
  pub segment : SoundSegment s
  pub not_full : c.count < 8

-- what `exchange` asks: a choice for bidder i among others, and a segment
pub record Exchangeable (c : Choice) (i : ℕ) (s : Segment) : Type 0 where
  pub segment : SoundSegment s
  pub bidder : i < c.count

-- what it does: bidder i has this segment, and the others have theirs
pub record Exchanged (c : Choice) (i : ℕ) (s : Segment) (r : Choice) : Type 0 where
  pub here : segment_at r i ≡ s
  pub others : (k : ℕ) → (k ≡ i → ⊥) → segment_at r k ≡ segment_at c k
