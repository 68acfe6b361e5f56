-- The search begins with 0 and the highest price, and stays between them.
use Rattle.std.proofs.Common.{◌-◌, ◌≤◌}
use Rattle.charges.specs.Charge.{highest}
use Rattle.hints.proofs.balance.Given as goal

abbrev pub invariant-loop-low : goal.invariant-loop-low
invariant-loop-low l = record { rises : l.low ≤ l.high; capped : l.high ≤ highest }

abbrev pub decreases-loop-low : goal.decreases-loop-low
decreases-loop-low l = l.high - l.low
