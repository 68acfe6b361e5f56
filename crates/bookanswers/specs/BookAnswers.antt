-- What every text gets, of each answer that is worked out from its book alone. `size` is the length of the lent output and `out` its bytes.
use Rattle.std.specs.Prelude.{ℕ, List}
use Rattle.refusal.specs.Checks.{when_accepted}
use Rattle.refusal.specs.Verdict.{Verdict}
use Rattle.book.specs.Entries.{BookEntries, book_entries}
use Rattle.booktext.specs.BookText.{book_text}
use Rattle.bookreader.specs.Reading.{read_of}
use Rattle.output.specs.declared.TextWritten.{TextWritten}
use Rattle.output.specs.Writing.{written_of, output_after}
use Rattle.sizes.specs.declared.BookSizes.{BookSizes}
use Rattle.sizes.specs.Sizes.{sizes_of, refused_sizes}
use Rattle.split.specs.declared.SplitPrice.{SplitPrice}
use Rattle.split.specs.Split.{split_of, refused_split}

-- the book that a text says, once it is accepted
abbrev pub book_of : List ℕ → BookEntries
book_of t = book_entries (read_of t).book

-- an answer about the text's book, or what is given beside the refusal of the text
abbrev pub answer_of : {A : Type 0} → (BookEntries → A) → (Verdict → A) → List ℕ → A
answer_of answer refused t = when_accepted (read_of t).verdict (answer (book_of t)) (refused (read_of t).verdict)

-- ---- the book written out again

unfoldable pub book_written : List ℕ → ℕ → TextWritten
book_written t size = written_of (read_of t).verdict (book_text (book_of t)) size

unfoldable pub book_output : List ℕ → List ℕ → List ℕ
book_output t out = output_after (read_of t).verdict (book_text (book_of t)) out

-- ---- the three figures, and the price of a proposed split

unfoldable pub sizes_text : List ℕ → BookSizes
sizes_text t = answer_of sizes_of refused_sizes t

unfoldable pub split_text : List ℕ → List ℕ → SplitPrice
split_text t rs = answer_of (λ b. split_of b rs) refused_split t
