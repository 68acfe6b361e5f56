-- A turn counts at most one beginning, so that the count never passes the turns.
use Rattle.std.proofs.Common.{◌≤◌}
use Rattle.cases.proofs.texts.cuts.Given as goal

abbrev pub invariant-loop-end : goal.invariant-loop-end
invariant-loop-end l = l.refused ≤ l.end-counter
