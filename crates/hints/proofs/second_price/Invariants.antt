-- No price paid is above the highest price.
use Rattle.std.proofs.Common.{◌≤◌}
use Rattle.charges.specs.Charge.{highest}
use Rattle.hints.proofs.second_price.Given as goal

abbrev pub invariant-loop-i : goal.invariant-loop-i
invariant-loop-i l = l.paid.0 ≤ highest
