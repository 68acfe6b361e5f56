-- Each unit price has the cents that are taken off it.
use Rattle.std.proofs.Common.{◌≡◌, length}
use Rattle.lists.proofs.Slices.{length_held}
use Rattle.discount.proofs.Lowered.{cents_at}
use Rattle.discount.proofs.bid_off.Goals as goal

pub segment_off-requires : goal.segment_off-requires
segment_off-requires c =
    let six : length c.args.bid.segments ≡ 6 = search (length_held, c.well_formed) in
    cents_at _ c.args.bid c.requires.held six c.requires.has _ c.loop-i-test.true
