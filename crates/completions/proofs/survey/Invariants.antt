-- The classes from each bidder passed on cover what those bidders can add.
use Rattle.book.specs.Entries.{book_entries}
use Rattle.supply.specs.Supply.{supplies_of}
use Rattle.completions.proofs.Covering.{CoversFrom}
use Rattle.completions.proofs.survey.Given as goal

abbrev pub invariant-loop-at : goal.invariant-loop-at
invariant-loop-at l = CoversFrom l.book.order l.prices (supplies_of (book_entries l.book).bids) l.book.count l.at l.table.classes
