-- Refusal 2, in the words of document 01.
use Rattle.std.specs.Prelude.{ℕ, ◌≤◌, List, length}
use Rattle.book.specs.Entries.{BookEntries}
use Rattle.forms.specs.Shape.{TextOf, Longest}
use Rattle.booktext.specs.BookText.{book_text}
use Rattle.booktext.specs.WellFormed.{WellFormedBook}

-- The text is not of the shape, and n is the length of the longest beginning that some text of the shape also has.
pub record NotOfShape (t : List ℕ) (n : ℕ) : Type 0 where
  pub short : length t ≤ 4096
  pub no_book : (b : BookEntries) → TextOf WellFormedBook book_text t b → ⊥
  pub longest : Longest WellFormedBook book_text t n
