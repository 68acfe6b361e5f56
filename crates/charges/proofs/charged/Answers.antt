-- Each charge is that of the segment up to the same end, cut at what the order takes.
use Rattle.charges.proofs.Cut.{charge_cut}
use Rattle.charges.proofs.charged.Goals as goal

pub returns : goal.returns
returns c =
    let s = c.args.s in
    let first = charge_cut c.args.order c.args.prices.first.0 s _ _ c.capped-end.ensures c.charge_to-first.ensures in
    let second = charge_cut c.args.order c.args.prices.second.0 s _ _ c.capped-end.ensures c.charge_to-second.ensures in
    λ i. record { low = s.start; high = s.end; charges = record { first = first i; second = second i } }
