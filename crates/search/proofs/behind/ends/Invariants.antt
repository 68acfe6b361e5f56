-- The array has the ends of the segments passed.
use Rattle.std.proofs.Common.{◌≡◌, length, take}
use Rattle.choices.specs.Choice.{ends_in_order}
use Rattle.choicerecord.specs.Records.{first_segments}
use Rattle.comparison.specs.Records.{blanks_in}
use Rattle.search.proofs.behind.ends.Given as goal

abbrev pub invariant-loop-i : goal.invariant-loop-i
invariant-loop-i l = record { size : length l.all ≡ 8; passed : take l.i (blanks_in l.all) ≡ ends_in_order (first_segments l.c l.i) }
