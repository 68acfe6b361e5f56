-- The quantities passed are on offer and added up with their prices.
use Rattle.split.proofs.Left.{Left}
use Rattle.split.proofs.priced.Given as goal

abbrev pub invariant-loop-i : goal.invariant-loop-i
invariant-loop-i l = Left l.bid-items l.quantities l.price.0 l.sum.0 l.i
