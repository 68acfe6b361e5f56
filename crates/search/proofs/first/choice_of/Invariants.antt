-- The choice has a segment of every bidder all along.
use Rattle.book.specs.Entries.{book_entries}
use Rattle.supply.specs.Supply.{supplies_of}
use Rattle.search.specs.ChosenFrom.{ChosenFrom}
use Rattle.search.proofs.first.choice_of.Given as goal

abbrev pub invariant-loop-i : goal.invariant-loop-i
invariant-loop-i l = ChosenFrom (supplies_of (book_entries l.book).bids) l.c
