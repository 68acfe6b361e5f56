-- The loop keeps that the entries passed are those of the other slice. Assumes nothing.
use Rattle.std.proofs.Common.{◌≡◌, length, take}
use Rattle.lists.proofs.copy.Given as goal

-- the first i entries are those of the other slice
abbrev pub invariant-loop-i : goal.invariant-loop-i
invariant-loop-i g l = record { full : length l.to ≡ length l.from; copied : take l.i l.to ≡ take l.i l.from }
