-- What a text gets, given what it is: the outcomes the other way round. Assumes nothing.
use Prim.Native.Nat.{ℕ, ◌≤◌, ◌<◌}
use mathlib.Core.List.{List}
use mathlib.Core.Path.{◌≡◌, sym, ap, ◌∙◌, subst}
use lib.ListN.{length}
use Rattle.refusal.specs.declared.Rule.{Rule}
use Rattle.refusal.specs.declared.Rule.TheVariants.{TextLength, Shape, NotCovered, OutputLength}
use Rattle.refusal.specs.Verdict.{Accepted, Refused}
use Rattle.book.specs.Entries.{BookEntries, book_entries}
use Rattle.book.specs.Rules.{book_verdict}
use Rattle.booktext.specs.Record.{book_record}
use Rattle.booktext.proofs.Records.{entries_of_record}
use Rattle.bookreader.specs.declared.BookRead.{BookRead}
use Rattle.bookreader.specs.Reading.{book_answer, read_of}
use Rattle.bookreader.proofs.Answers.{read_text, read_long, accepted_answer}
use Rattle.sampling.specs.Entries.{TableEntries}
use Rattle.roundtrip.specs.NotOfShape.{NotOfShape}
use Rattle.roundtrip.proofs.Reading.{place_refused}
use Rattle.award.specs.declared.Award.{Award}
use Rattle.clearing.specs.declared.Clearing.{Clearing}
use Rattle.clearing.specs.Clearing.{clear_sampled}
use Rattle.awardtheorems.specs.OfBook.{DivisionOf}
use Rattle.awardtheorems.specs.Awarded.{awarded}
use Rattle.awardtheorems.proofs.Cleared.{covered_iff, not_covered_iff}
use Rattle.bookanswers.specs.BookAnswers.{book_of}
use Rattle.tender.specs.FromText.{clear_text_sampled}
use Rattle.endtoend.specs.TheAward.{TheAward}
use Rattle.endtoend.specs.Outcome.{text_verdict, TextSays, AcceptedText, NothingWritten, WholeText}
use Rattle.endtoend.specs.Shown.{ShowsRowsOnly}
use Rattle.endtoend.proofs.ClearedText.{cleared_book_lem, its_award}
use Rattle.endtoend.proofs.Whole.{nothing_written, refused_text, refused_10, text_written}
use Rattle.endtoend.proofs.OneAward.{one_text}

verdict_of_lem : {r s : BookRead} → r ≡ s → r.verdict ≡ s.verdict
verdict_of_lem e = ap (λ (r : BookRead). r.verdict) e

-- refused before it is cleared
module _ (text : Award → List ℕ) (table : TableEntries) (t out : List ℕ) where
  pub gets_1 : 4096 < length t → NothingWritten text (clear_text_sampled table t) out TextLength 4096
  gets_1 h = refused_text text table t out TextLength 4096 (verdict_of_lem (sym (read_long t h)))

  pub gets_2 : (place : ℕ) → NotOfShape t place → NothingWritten text (clear_text_sampled table t) out Shape place
  gets_2 place h = refused_text text table t out Shape place (verdict_of_lem (place_refused t place h))

  pub gets_3_to_8 : (b : BookEntries) → TextSays t b → (rule : Rule) (line : ℕ) → text_verdict b ≡ Refused rule line → NothingWritten text (clear_text_sampled table t) out rule line
  unfolding book_answer
  gets_3_to_8 b says rule line e = refused_text text table t out rule line (verdict_of_lem (sym (read_text t says.short b says.text)) ∙ e)

-- accepted
module _ (t : List ℕ) (b : BookEntries) (is : AcceptedText t b) where
  read_as_book : read_of t ≡ record { verdict = Accepted; book = book_record b }
  read_as_book = sym (read_text t is.says.short b is.says.text) ∙ accepted_answer b is.accepted

  pub same_book : book_of t ≡ b
  same_book = ap (λ (r : BookRead). book_entries r.book) read_as_book ∙ entries_of_record b is.says.text.well_formed is.accepted

  -- by the rules on the book itself too
  pub book_passes : book_verdict b ≡ Accepted
  book_passes = ap book_verdict (sym (entries_of_record b is.says.text.well_formed is.accepted)) ∙ is.accepted

  module _ (table : TableEntries) where
    -- it is cleared as its book is
    pub cleared_as_book : clear_text_sampled table t ≡ clear_sampled table b
    cleared_as_book = cleared_book_lem t (verdict_of_lem read_as_book) table ∙ ap (clear_sampled table) same_book

    same_verdict : (clear_text_sampled table t).verdict ≡ (clear_sampled table b).verdict
    same_verdict = ap (λ (c : Clearing). c.verdict) cleared_as_book

    pub uncovered : ((rs : List ℕ) → DivisionOf b rs → ⊥) → (clear_text_sampled table t).verdict ≡ Refused NotCovered 0
    uncovered no_division = same_verdict ∙ (not_covered_iff b table book_passes).1 no_division

    pub covered : (rs : List ℕ) → DivisionOf b rs → (clear_text_sampled table t).verdict ≡ Accepted
    covered rs d = same_verdict ∙ (covered_iff b table book_passes).1 (rs, d)

    -- where there is a division there is an award
    found : (rs : List ℕ) → DivisionOf b rs → TheAward table b (clear_text_sampled table t).award
    found rs d = subst (λ (x : BookEntries). TheAward table x (clear_text_sampled table t).award) same_book (its_award table t (covered rs d))

    pub has_award : (rs : List ℕ) → DivisionOf b rs → (a : Award) × TheAward table b a
    has_award rs d = ((clear_text_sampled table t).award, found rs d)

-- accepted, and lent an output
module _ (text : Award → List ℕ) (table : TableEntries) (t out : List ℕ) (b : BookEntries) (is : AcceptedText t b) where
  pub gets_9 : ((rs : List ℕ) → DivisionOf b rs → ⊥) → NothingWritten text (clear_text_sampled table t) out NotCovered 0
  gets_9 no_division = nothing_written text (clear_text_sampled table t) out NotCovered 0 (uncovered t b is table no_division)

  module _ (shows : ShowsRowsOnly text) (a : Award) (award : TheAward table b a) where
    accepted : (clear_text_sampled table t).verdict ≡ Accepted
    accepted = covered t b is table (awarded a).quantities award.best.division

    same : text a ≡ text (clear_text_sampled table t).award
    same = one_text table b a (clear_text_sampled table t).award award (found t b is table (awarded a).quantities award.best.division) text shows

    pub gets_10 : length out < length (text a) → NothingWritten text (clear_text_sampled table t) out OutputLength (length (text a))
    gets_10 = refused_10 text (clear_text_sampled table t) out accepted a same

    pub gets_text : length (text a) ≤ length out → WholeText text (clear_text_sampled table t) out a
    gets_text = text_written text (clear_text_sampled table t) out accepted a same
