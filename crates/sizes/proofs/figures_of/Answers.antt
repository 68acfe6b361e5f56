-- An accepted book has eight bids at most.
use Rattle.std.proofs.Common.{sym}
use Rattle.lists.proofs.Slices.{length_held}
use Rattle.book.proofs.Accepted.{few_bids}
use Rattle.sizes.proofs.figures_of.Goals as goal

pub sheet_limit-requires : goal.sheet_limit-requires
sheet_limit-requires c = few_bids c.args.book (sym c.in_ok-check.ensures) (search (length_held, c.well_formed))
