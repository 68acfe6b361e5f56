-- An accepted book has eight bids at most, and the index is that of one of them.
use Rattle.book.specs.Entries.{book_entries}
use Rattle.book.proofs.Accepted.{book_accepted}
use Rattle.without.proofs.total_without.Goals as goal

pub book_without-left-requires : goal.book_without-left-requires
book_without-left-requires c = record { within = c.requires.within; few = (book_accepted (book_entries c.args.book) c.requires.accepted).count_high }
