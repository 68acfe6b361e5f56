-- What a parsed text is answered: the laws of any kind of text (`textreading`), of books. Assumes nothing.
use Prim.Native.Nat.{ℕ, ◌≤◌, ◌<◌}
use mathlib.Core.Bool.{cond}
use mathlib.Core.List.{List}
use mathlib.Core.Path.{◌≡◌, refl}
use lib.Dec.{leb}
use lib.ListN.{length}
use Rattle.refusal.specs.Checks.{when_accepted}
use Rattle.refusal.specs.declared.Rule.TheVariants.{TextLength, Shape}
use Rattle.refusal.specs.Verdict.{Accepted}
use Rattle.book.specs.declared.Book.{Book}
use Rattle.book.specs.Entries.{BookEntries, book_entries}
use Rattle.book.specs.Rules.{book_verdict}
use Rattle.forms.specs.Shape.{TextOf, Longest, Reading, answer}
use Rattle.textreading.proofs.Kind.{Kind}
use Rattle.textreading.proofs.Answers as Any
use Rattle.booktext.specs.BookText.{book_text}
use Rattle.booktext.specs.WellFormed.{WellFormedBook}
use Rattle.booktext.specs.Record.{book_record, empty_book}
use Rattle.booktext.specs.BookForm.{book}
use Rattle.booktext.proofs.BookForm.{book_laws, book_reading}
use Rattle.bookreader.specs.declared.BookRead.{BookRead}
use Rattle.bookreader.specs.Reading.{refused_answer, book_answer, read_of}

pub answer_is : (b : BookEntries)
    → let v = book_verdict (book_entries (book_record b)) in book_answer b ≡ record { verdict = v; book = when_accepted v (book_record b) empty_book }
unfolding book_answer
answer_is b = refl

pub read_is : (t : List ℕ) → read_of t ≡ cond (leb (length t) 4096)
    (answer WellFormedBook book_text book_answer (refused_answer Shape) (book_reading t)) (refused_answer TextLength 4096)
unfolding read_of
read_is t = refl

abbrev pub books : Kind BookEntries Book BookRead
books = record {
  form = book;
  laws = book_laws;
  reading = book_reading;
  record_of = book_record;
  entries_of = book_entries;
  verdict_of = book_verdict;
  zeros = empty_book;
  answering = λ v r. record { verdict = v; book = r };
  verdict_in = λ c. c.verdict;
  record_in = λ c. c.book;
  verdict_in_lem = λ v r. refl;
  record_in_lem = λ v r. refl;
  answer_of = book_answer;
  answer_is = answer_is;
  read_of = read_of;
  read_is = read_is;
}

module _ (t : List ℕ) where
  abbrev pub answered : Reading WellFormedBook book_text t → BookRead
  answered = answer WellFormedBook book_text book_answer (refused_answer Shape)

  pub read_long : 4096 < length t → refused_answer TextLength 4096 ≡ read_of t
  read_long = Any.read_long books t

  module _ (short : length t ≤ 4096) where
    -- Which of a text's readings is taken makes no difference: there is one answer.
    pub any_reading : (x : Reading WellFormedBook book_text t) → answered x ≡ read_of t
    any_reading = Any.any_reading books t short

    pub read_text : (b : BookEntries) → TextOf WellFormedBook book_text t b → book_answer b ≡ read_of t
    read_text = Any.read_text books t short

    pub read_other : (n : ℕ) → ((b : BookEntries) → TextOf WellFormedBook book_text t b → ⊥) → Longest WellFormedBook book_text t n → refused_answer Shape n ≡ read_of t
    read_other = Any.read_other books t short

-- what an accepted record gives
pub accepted_answer : (b : BookEntries) → book_verdict (book_entries (book_record b)) ≡ Accepted → book_answer b ≡ record { verdict = Accepted; book = book_record b }
accepted_answer = Any.accepted_answer books
