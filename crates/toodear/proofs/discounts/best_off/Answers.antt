-- The book with the discount is accepted, and what the search finds for it is its award.
use Rattle.toodear.proofs.Awards.{searchable_off, award_off}
use Rattle.toodear.proofs.discounts.best_off.Goals as goal

pub best_division-requires : goal.best_division-requires
best_division-requires c = searchable_off c.args.book c.args.at c.args.cents.0 c.requires c.book_off.result c.book_off.ensures

pub returns : goal.returns
returns c =
    award_off c.args.book c.args.at c.args.cents.0 c.book_off.result c.best_division.result c.book_off.ensures c.best_division.ensures
