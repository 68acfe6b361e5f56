-- The bidders from i on have their quantities, and those before them share what is left.
use Rattle.meritorder.proofs.Filling.{Filling}
use Rattle.meritorder.proofs.fill.Given as goal

abbrev pub invariant-loop-i : goal.invariant-loop-i
invariant-loop-i l = Filling l.c l.initial.left.0 l.left.0 l.quantities l.cost.0 l.i
