-- The segments passed have their cents off, and the others are as they were.
use Rattle.discount.proofs.Lowered.{Lowered}
use Rattle.discount.proofs.bid_off.Given as goal

abbrev pub invariant-loop-i : goal.invariant-loop-i
invariant-loop-i l = Lowered l.cents.0 l.bid l.cheaper l.i
