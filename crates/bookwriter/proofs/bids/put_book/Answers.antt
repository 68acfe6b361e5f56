-- The first line and the bids are put one right after the other (`puts_then`), as in the text.
use Rattle.booktext.specs.BookText.{book_text}
use Rattle.printer.proofs.Puts.{puts_as, puts_then}
use Rattle.bookwriter.proofs.bids.put_book.Goals as goal

pub returns : goal.returns
unfolding book_text
returns c = puts_then (puts_as c.book_head.ensures c.put.ensures.puts) c.put_bids.ensures
