-- Demand 2: a book written out reads back as the same book, and an accepted text written out again is the same text; by the laws of any kind
-- of text (`Texts`). Assumes nothing.
use Prim.Native.Nat.{ℕ, ◌≤◌}
use native.Mathlib.Omega.{arith}
use mathlib.Core.List.{List}
use mathlib.Core.Path.{◌≡◌, refl, sym}
use lib.ListN.{length, take}
use Rattle.lists.proofs.All.{all_same}
use Rattle.refusal.specs.Verdict.{Accepted}
use Rattle.book.specs.declared.Book.{Book}
use Rattle.book.specs.Entries.{book_entries, SameBook}
use Rattle.book.specs.Rules.{book_verdict}
use Rattle.forms.specs.Shape.{TextOf}
use Rattle.booktext.specs.BookText.{book_text}
use Rattle.booktext.specs.Record.{empty_bid, book_record}
use Rattle.booktext.specs.WellFormed.{WellFormedBook}
use Rattle.booktext.specs.Arrays.{SixSegments, Arrays}
use Rattle.booktext.proofs.Accepted.{well_formed, same_record}
use Rattle.booktext.proofs.Records.{entries_of_record, record_arrays}
use Rattle.booktext.proofs.Lengths.{text_short}
use Rattle.bookreader.specs.Reading.{read_of}
use Rattle.bookreader.proofs.Answers.{books}
use Rattle.printer.specs.Written.{written}
use Rattle.output.proofs.Answers as Output
use Rattle.bookwriter.specs.Writing.{text_of, write_verdict, write_of, output_of}
use Rattle.roundtrip.proofs.Texts as Any

short : (b : Book) → Arrays b → book_verdict (book_entries b) ≡ Accepted → length (text_of b) ≤ 4096
short b arrays accepted = omega (arith, text_short (book_entries b) (well_formed b arrays accepted) accepted)

kept : Any.Kept books Arrays
kept = record {
  well_formed = well_formed;
  text_short = short;
  same_record = same_record;
  full = record_arrays;
  zeros_full = record { bids = refl; segments = all_same SixSegments 8 empty_bid refl };
  entries_of_record = entries_of_record;
}

-- a record whose book is accepted
module _ (b : Book) (arrays : Arrays b) (accepted : book_verdict (book_entries b) ≡ Accepted) where
  -- the text of an accepted record is accepted, and is read as the same book
  pub reads_back : ((read_of (text_of b)).verdict ≡ Accepted) × SameBook (read_of (text_of b)).book b
  reads_back = Any.reads_back kept b arrays accepted

-- what is known of a record that was written
module _ (b : Book) (out : List ℕ) (accepted : write_verdict b (length out) ≡ Accepted) where
  pub book_written_lem : book_verdict (book_entries b) ≡ Accepted
  book_written_lem = Output.accepted_before (book_verdict (book_entries b)) (text_of b) out accepted

  -- the bytes written, as many as writing answers, are the text
  pub text_written : take (write_of b (length out)).bytes (output_of b out) ≡ text_of b
  text_written = Output.text_written (book_verdict (book_entries b)) (text_of b) out accepted

-- reading what was written gives the same book
pub read_written : (b : Book) (out : List ℕ) → Arrays b → write_verdict b (length out) ≡ Accepted
    → ((read_of (take (write_of b (length out)).bytes (output_of b out))).verdict ≡ Accepted) × SameBook
    (read_of (take (write_of b (length out)).bytes (output_of b out))).book b
read_written = Any.read_written kept

-- an accepted text
module _ (t : List ℕ) (accepted : (read_of t).verdict ≡ Accepted) where
  -- it is the text of the book that is read, which is of the shape
  pub text_read : TextOf WellFormedBook book_text t (book_entries (read_of t).book)
  text_read = Any.text_read kept t accepted

  pub same_text : text_of (read_of t).book ≡ t
  same_text = Any.same_text kept t accepted

  -- which is an accepted book
  pub book_accepted : book_verdict (book_entries (read_of t).book) ≡ Accepted
  book_accepted = Any.held_passes kept t accepted

  -- with zeros past the counts
  pub zeros_past : (read_of t).book ≡ book_record (book_entries (read_of t).book)
  zeros_past = Any.zeros_past kept t accepted

  -- writing what was read gives the same text, where the output has room for it
  pub written_read : (out : List ℕ) → length t ≤ length out
      → (write_of (read_of t).book (length out) ≡ record { verdict = Accepted; bytes = length t }) × (output_of (read_of t).book out ≡ written out 0 t)
  written_read = Any.written_read kept t accepted

  pub arrays_read : Arrays (read_of t).book
  arrays_read = Any.read_full kept t

-- a text is accepted exactly if it is the text of an accepted book, and then means that book
pub accepted_text : (t : List ℕ) → (read_of t).verdict ≡ Accepted → (b : Book) × Arrays b × (book_verdict (book_entries b) ≡ Accepted) × (t ≡ text_of b)
accepted_text t accepted = ((read_of t).book, arrays_read t accepted, book_accepted t accepted, sym (same_text t accepted))

pub text_accepted : (t : List ℕ) (b : Book) → Arrays b → book_verdict (book_entries b) ≡ Accepted → t ≡ text_of b
    → ((read_of t).verdict ≡ Accepted) × SameBook (read_of t).book b
text_accepted t b arrays accepted = Any.text_accepted kept b arrays accepted t
