-- What a text t gets, sampled by a table and lent an output with the bytes `out`, where `text` is any way to write an award as a text (a sheet, a
-- page): one of six outcomes, in the order of the refusals. Each says what holds of t, and then the answer and the bytes of the output;
-- `cleared` is what clearing answered for t.
use Rattle.std.specs.Prelude.{ℕ, ◌≤◌, ◌<◌, List, ◌≡◌, length}
use Rattle.refusal.specs.declared.Rule.{Rule}
use Rattle.refusal.specs.declared.Rule.TheVariants.{TextLength, Shape, NotCovered, OutputLength}
use Rattle.refusal.specs.Verdict.{Verdict}
use Rattle.refusal.specs.Verdict.{Accepted, Refused}
use Rattle.book.specs.Entries.{BookEntries, book_entries}
use Rattle.book.specs.Rules.{book_verdict}
use Rattle.forms.specs.Shape.{TextOf}
use Rattle.booktext.specs.BookText.{book_text}
use Rattle.booktext.specs.WellFormed.{WellFormedBook}
use Rattle.booktext.specs.Record.{book_record}
use Rattle.printer.specs.Written.{written}
use Rattle.sampling.specs.Entries.{TableEntries}
use Rattle.roundtrip.specs.NotOfShape.{NotOfShape}
use Rattle.award.specs.declared.Award.{Award}
use Rattle.clearing.specs.declared.Clearing.{Clearing}
use Rattle.awardtheorems.specs.OfBook.{DivisionOf}
use Rattle.sheettext.specs.Sheet.{refusal_text}
use Rattle.tender.specs.FromText.{written_as, output_as, printed_as}
use Rattle.endtoend.specs.TheAward.{TheAward}

-- the rules on the book that a text says: those on its record, which holds the first eight bids and six segments beside the text's counts
abbrev pub text_verdict : BookEntries → Verdict
text_verdict b = book_verdict (book_entries (book_record b))

-- t is the text of the book b
pub record TextSays (t : List ℕ) (b : BookEntries) : Type 0 where
  pub short : length t ≤ 4096
  pub text : TextOf WellFormedBook book_text t b

-- t is the text of the accepted book b
pub record AcceptedText (t : List ℕ) (b : BookEntries) : Type 0 where
  pub says : TextSays t b
  pub accepted : text_verdict b ≡ Accepted

-- t is the text of an accepted book that has a division, or of one that has none
abbrev pub CoveredText : List ℕ → BookEntries → Type 0
CoveredText t b = AcceptedText t b × ((rs : List ℕ) × DivisionOf b rs)

abbrev pub UncoveredText : List ℕ → BookEntries → Type 0
UncoveredText t b = AcceptedText t b × ((rs : List ℕ) → DivisionOf b rs → ⊥)

-- what was cleared, written as a text
module _ (text : Award → List ℕ) (cleared : Clearing) (out : List ℕ) where
  -- refused: no byte is written, and the output is unchanged
  abbrev pub NothingWritten : Rule → ℕ → Type 0
  NothingWritten rule place =
      (written_as text cleared (length out) ≡ record { verdict = Refused rule place; bytes = 0 }) × (output_as text cleared out ≡ out)

  -- the text of the award, byte for byte, and what was past it
  abbrev pub WholeText : Award → Type 0
  WholeText a =
      (written_as text cleared (length out) ≡ record { verdict = Accepted; bytes = length (text a) })
      × (output_as text cleared out ≡ written out 0 (text a))

pub data Outcome (text : Award → List ℕ) (table : TableEntries) (t : List ℕ) (cleared : Clearing) (out : List ℕ) : Type 0 where
  -- 1: it is longer than 4,096 bytes
  too_long : 4096 < length t → NothingWritten text cleared out TextLength 4096 → Outcome text table t cleared out
  -- 2: no book has this text
  not_of_shape : (place : ℕ) → NotOfShape t place → NothingWritten text cleared out Shape place → Outcome text table t cleared out
  -- 3 to 8: its book breaks a rule
  broken : (b : BookEntries) → TextSays t b → (rule : Rule) (line : ℕ) → text_verdict b ≡ Refused rule line → NothingWritten text cleared out rule line
      → Outcome text table t cleared out
  -- 9: its book has no division
  not_covered : (b : BookEntries) → AcceptedText t b → ((rs : List ℕ) → DivisionOf b rs → ⊥) → NothingWritten text cleared out NotCovered 0
      → Outcome text table t cleared out
  -- 10: the award's text is longer than the output
  output_short : (b : BookEntries) → AcceptedText t b → (a : Award) → TheAward table b a → length out < length (text a)
      → NothingWritten text cleared out OutputLength (length (text a)) → Outcome text table t cleared out
  -- the award's text
  award_written : (b : BookEntries) → AcceptedText t b → (a : Award) → TheAward table b a → length (text a) ≤ length out
      → WholeText text cleared out a → Outcome text table t cleared out

-- What a program prints for t: the text of the award, or the line of the refusal that t gets in every output.
pub data PrintOutcome (text : Award → List ℕ) (table : TableEntries) (t : List ℕ) (cleared : Clearing) : Type 0 where
  its_text : (b : BookEntries) → AcceptedText t b → (a : Award) → TheAward table b a → printed_as text cleared ≡ text a
      → PrintOutcome text table t cleared
  its_refusal : (rule : Rule) (place : ℕ) → ((out : List ℕ) → NothingWritten text cleared out rule place)
      → printed_as text cleared ≡ refusal_text (Refused rule place) → PrintOutcome text table t cleared
