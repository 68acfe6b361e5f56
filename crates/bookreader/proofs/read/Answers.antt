-- What is given follows from the book or the refusal of the text (`textreading`).
use Rattle.textreading.proofs.Outcome.{answer_accepted, answer_refused}
use Rattle.bookreader.proofs.Answers.{books}
use Rattle.bookreader.proofs.read.Goals as goal

pub returns-in-Ok : goal.returns-in-Ok
returns-in-Ok c = answer_accepted books c.args.text.now c.in-Ok.book c.in-Ok.ensures

pub returns-in-Err : goal.returns-in-Err
returns-in-Err c = rw c.empty_book.ensures (answer_refused books c.args.text.now c.in-Err.refusal c.in-Err.ensures)
