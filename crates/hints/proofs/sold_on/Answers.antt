-- The unit prices of an accepted bid are not above the highest price.
use Rattle.std.proofs.Common.{arith}
use Rattle.hints.proofs.Hinted.{hinted_segment}
use Rattle.hints.proofs.sold_on.Goals as goal

pub returns : goal.returns
returns c =
    let s = c.segment_of in
    omega (arith, (hinted_segment c.args.bid c.requires _ s.result (s.ensures.number_in_bounds, s.ensures.value)).unit_high)
