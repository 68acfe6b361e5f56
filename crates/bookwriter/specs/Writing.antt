-- Writing a bid book: what every record and every lent output gets.
use Rattle.std.specs.Prelude.{ℕ, List}
use Rattle.refusal.specs.Verdict.{Verdict}
use Rattle.book.specs.declared.Book.{Book}
use Rattle.book.specs.Entries.{book_entries}
use Rattle.book.specs.Rules.{book_verdict}
use Rattle.booktext.specs.BookText.{book_text}
use Rattle.output.specs.declared.TextWritten.{TextWritten}
use Rattle.output.specs.Writing.{writing_verdict, written_of, output_after}

abbrev pub text_of : Book → List ℕ
text_of book = book_text (book_entries book)

-- refused by rules 3 to 8, or by rule 10 where the output of `size` bytes is shorter than the text
abbrev pub write_verdict : Book → ℕ → Verdict
write_verdict book size = writing_verdict (book_verdict (book_entries book)) (text_of book) size

-- the number of bytes written, 0 with a refusal
abbrev pub write_of : Book → ℕ → TextWritten
write_of book size = written_of (book_verdict (book_entries book)) (text_of book) size

-- the output: the text, and what was past it; unchanged with a refusal
abbrev pub output_of : Book → List ℕ → List ℕ
output_of book out = output_after (book_verdict (book_entries book)) (text_of book) out
