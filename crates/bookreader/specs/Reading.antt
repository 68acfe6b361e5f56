-- Reading a bid book: what every text gets.
use Rattle.std.specs.Prelude.{ℕ, cond, List, leb, length, Result}
use Rattle.refusal.specs.Checks.{when_accepted}
use Rattle.refusal.specs.declared.Refusal.{Refusal}
use Rattle.refusal.specs.declared.Rule.{Rule}
use Rattle.refusal.specs.declared.Rule.TheVariants.{TextLength, Shape}
use Rattle.refusal.specs.Verdict.{Refused}
use Rattle.book.specs.declared.Book.{Book}
use Rattle.book.specs.Entries.{BookEntries, book_entries}
use Rattle.book.specs.Rules.{book_verdict}
use Rattle.forms.specs.Shape.{answer}
use Rattle.textreading.specs.Outcome.{or_refusal}
use Rattle.booktext.specs.BookText.{book_text}
use Rattle.booktext.specs.WellFormed.{WellFormedBook}
use Rattle.booktext.specs.Record.{book_record, empty_book}
use Rattle.booktext.proofs.BookForm.{book_reading}
use Rattle.bookreader.specs.declared.BookRead.{BookRead}

-- with a refusal the book is all zeros
abbrev pub refused_answer : Rule → ℕ → BookRead
refused_answer rule place = record { verdict = Refused rule place; book = empty_book }

-- the text of a book: the first fault of its record, or the record
unfoldable pub book_answer : BookEntries → BookRead
book_answer b =
    let verdict = book_verdict (book_entries (book_record b)) in
    record { verdict = verdict; book = when_accepted verdict (book_record b) empty_book }

-- Any text: refused by its length, or answered by what it is, a book's text or not of the shape. That every text has such a reading is the
-- theorem `book_reading`, the one thing of proofs/ that a definition names. Which reading it gives makes no difference
-- (bookreader/proofs/Answers.antt: `any_reading`).
unfoldable pub read_of : List ℕ → BookRead
read_of t =
    cond (leb (length t) 4096) (answer WellFormedBook book_text book_answer (refused_answer Shape) (book_reading t))
    (refused_answer TextLength 4096)

-- the same as one value: the book of a text, or the refusal
abbrev pub book_of_text : List ℕ → Result Book Refusal
book_of_text t = or_refusal (read_of t).verdict (read_of t).book
