-- One line of numbers.
use Rattle.forms.specs.Spaced.{numbers_in}
use Rattle.booktext.specs.Record.{book_record}
use Rattle.booklines.proofs.demand.Goals as goal

pub returns : goal.returns
unfolding book_record
returns c = (numbers_in 1 c.in_ok-demand.field-0, rw c.empty_book.ensures, c.in_ok-demand.ensures)
