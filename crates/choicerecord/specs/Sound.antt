-- What holds of every record of a choice. It is stated of the record's fields, since it is an invariant of the record.
use Rattle.std.specs.Prelude.{ℕ, ◌≤◌, ◌<◌, List, ◌≡◌, get_or}
use Rattle.lists.specs.Latest.{latest}
use Rattle.book.specs.declared.Segment.{Segment}
use Rattle.supply.specs.Supply.{segment0}
use Rattle.supply.specs.Sound.{SoundSegment}
use Rattle.choices.specs.Choice.{starts as sum_of_starts, ends as sum_of_ends}

-- at most eight bidders, segments as those of accepted bids are, and, change 4 of document 02, the carried sums equal those added up
-- afresh over the bidders chosen so far
pub record SoundChoice (count : ℕ) (segments : List Segment) (starts ends : ℕ) : Type 0 where
  pub few : count ≤ 8
  pub each : (i : ℕ) → i < count → SoundSegment (get_or segments i segment0)
  pub starts_carried : starts ≡ sum_of_starts (latest segment0 segments count)
  pub ends_carried : ends ≡ sum_of_ends (latest segment0 segments count)
