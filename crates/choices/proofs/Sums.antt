-- The sums of the starts and of the ends of a choice: what they add up, and how large they are. Assumes nothing.
use Prim.Native.Nat.{◌*◌, ◌≤◌}
use native.Mathlib.Omega.{arith}
use mathlib.Core.List.{List, [], ◌∷◌}
use mathlib.Core.Path.{refl}
use lib.ListN.{length}
use Rattle.lists.specs.All.{All}
use Rattle.lists.proofs.Sums.{Adds}
use Rattle.book.specs.declared.Segment.{Segment}
use Rattle.supply.specs.Sound.{most_blanks, SoundSegment}
use Rattle.choices.specs.Choice.{starts, ends}

pub adds_starts : Adds starts (λ s. s.start.0)
adds_starts = record { none = refl; next = λ s c. refl }

pub adds_ends : Adds ends (λ s. s.end.0)
adds_ends = record { none = refl; next = λ s c. refl }

pub starts_small : (c : List Segment) → All SoundSegment c → starts c ≤ most_blanks * length c
starts_small [] sound = omega arith
starts_small (s ∷ c) sound = omega (arith, sound.0.order, sound.0.end_high, starts_small c sound.1)

pub ends_small : (c : List Segment) → All SoundSegment c → ends c ≤ most_blanks * length c
ends_small [] sound = omega arith
ends_small (s ∷ c) sound = omega (arith, sound.0.end_high, ends_small c sound.1)
