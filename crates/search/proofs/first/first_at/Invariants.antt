-- The best so far is that of complete choices, or none (`Started`).
use Rattle.book.specs.Entries.{book_entries}
use Rattle.supply.specs.Supply.{supplies_of}
use Rattle.choices.specs.Leaf.{Started}
use Rattle.comparison.specs.Records.{found}
use Rattle.search.proofs.first.first_at.Given as goal

abbrev pub invariant-loop-number : goal.invariant-loop-number
invariant-loop-number l = Started l.book.order (supplies_of (book_entries l.book).bids) (found l.book.count l.so_far)
