-- What a reading's answer tells of its text: the laws of any kind of text (`textreading`), of books. Assumes nothing.
use Prim.Native.Nat.{ℕ, suc, ◌<◌}
use native.Mathlib.Omega.{arith}
use mathlib.Core.List.{List}
use mathlib.Core.Path.{◌≡◌, refl, sym}
use lib.ListN.{length, take}
use Rattle.lists.specs.Every.{every}
use Rattle.refusal.specs.declared.Rule.TheVariants.{Shape}
use Rattle.refusal.specs.Verdict.{Accepted, Refused}
use Rattle.book.specs.Entries.{BookEntries}
use Rattle.book.specs.Rules.{book_verdict}
use Rattle.book.proofs.Refusals.{never_by}
use Rattle.forms.specs.Shape.{TextOf, Begins}
use Rattle.forms.proofs.Whole.{one_meaning}
use Rattle.textreading.proofs.Told as Any
pub use Rattle.textreading.proofs.Told.{by_length, by_reading}
use Rattle.booktext.specs.BookText.{book_text}
use Rattle.booktext.specs.WellFormed.{WellFormedBook}
use Rattle.booktext.proofs.BookForm.{book_laws}
use Rattle.bookreader.specs.Reading.{refused_answer, read_of}
use Rattle.bookreader.proofs.Answers.{books, read_other}
use Rattle.roundtrip.specs.NotOfShape.{NotOfShape}

-- What a text of at most 4,096 bytes is answered by (`by_reading`); any other is refused by its length (`by_length`).
abbrev pub Answered : List ℕ → Type 0
Answered = Any.Answered books

pub read_answered : (t : List ℕ) → Answered t
read_answered = Any.read_answered books

-- what an accepted text is read as
abbrev pub ReadAs : List ℕ → BookEntries → Type 0
ReadAs = Any.ReadAs books

pub accepted_as : (t : List ℕ) → (read_of t).verdict ≡ Accepted → (b : BookEntries) × ReadAs t b
accepted_as = Any.accepted_as books

-- no rule for a record is the rule for a text's shape
not_shape : (b : BookEntries) (n : ℕ) → book_verdict b ≡ Refused Shape n → ⊥
unfolding every
not_shape b n e = never_by Shape refl b n e

pub refused_place : (t : List ℕ) (n : ℕ) → (read_of t).verdict ≡ Refused Shape n → NotOfShape t n
refused_place t n e =
    let (short, none, longest) = Any.refused_place books t not_shape n e in
    record { short = short; no_book = none; longest = longest }

pub place_refused : (t : List ℕ) (n : ℕ) → NotOfShape t n → read_of t ≡ refused_answer Shape n
place_refused t n s = sym (read_other t s.short n s.no_book s.longest)

-- in other words: some text of the shape has these first n bytes, and none has these first n + 1, or the text ends there
pub first_bytes : (t : List ℕ) (n : ℕ) → NotOfShape t n → Begins WellFormedBook book_text (take n t)
first_bytes t n s = s.longest.begins

pub one_byte_more : (t : List ℕ) (n : ℕ) → NotOfShape t n → n < length t → Begins WellFormedBook book_text (take (suc n) t) → ⊥
one_byte_more t n s h b = omega (arith, s.longest.longest (suc n) h b)

-- a text means one book
pub one_book : (t : List ℕ) (a b : BookEntries) → TextOf WellFormedBook book_text t a → TextOf WellFormedBook book_text t b → a ≡ b
one_book = one_meaning book_laws
