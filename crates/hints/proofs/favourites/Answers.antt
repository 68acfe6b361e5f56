-- Each bid of the book is accepted.
use Rattle.hints.proofs.Hinted.{hinted_bid}
use Rattle.hints.proofs.favourites.Goals as goal

pub favourite-number-requires : goal.favourite-number-requires
favourite-number-requires c = hinted_bid c.requires _ c.listed-bid-items.ensures _ c.loop-i-test.true
