-- Each bid of the book is accepted, and its favourite is one of its segments.
use Rattle.hints.proofs.Hinted.{hinted_bid}
use Rattle.hints.proofs.sold.Goals as goal

pub favourite-number-requires : goal.favourite-number-requires
favourite-number-requires c = hinted_bid c.requires _ c.listed-bid-items.ensures _ c.loop-bid-test.true

pub segment_of-s-requires : goal.segment_of-s-requires
segment_of-s-requires c =
    record { accepted = (hinted_bid c.requires _ c.listed-bid-items.ensures _ c.loop-bid-test.true).accepted; within = c.favourite-number.ensures }
