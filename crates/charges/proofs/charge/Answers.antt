-- The end that is charged is the segment's, cut at what the order takes.
use Rattle.charges.proofs.Cut.{charge_cut}
use Rattle.charges.proofs.charge.Goals as goal

pub returns : goal.returns
returns c = charge_cut _ _ _ _ _ c.capped-end.ensures c.charge_to.ensures
