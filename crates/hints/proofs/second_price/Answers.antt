-- Each bid of the book is accepted, and no unit price of one is above the highest price.
use Rattle.hints.proofs.Hinted.{hinted_bid}
use Rattle.hints.proofs.second_price.Goals as goal

pub sold_on-s-requires : goal.sold_on-s-requires
sold_on-s-requires c = (hinted_bid c.requires _ c.listed-bid-items.ensures _ c.loop-i-test.true).accepted
