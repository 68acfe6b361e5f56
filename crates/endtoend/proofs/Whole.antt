-- Demand 3 from the bytes of a text to the bytes of its award: every text and every output have one of the six outcomes, whatever text
-- an award is written as. Assumes nothing.
use Prim.Native.Nat.{ℕ, ◌≤◌, ◌<◌}
use mathlib.Core.Bool.{Bool, true, false}
use mathlib.Core.List.{List}
use mathlib.Core.Option.{Option, some, none}
use mathlib.Core.Path.{◌≡◌, refl, sym, ap, ◌∙◌}
use borrow.Author.Tests.{leb-true, leb-false}
use lib.Dec.{leb}
use lib.ListN.{length}
use Rattle.std.specs.Prelude.{Ok, Err}
use Rattle.refusal.specs.declared.Rule.{Rule}
use Rattle.refusal.specs.declared.Rule.TheVariants.{TextLength, Shape, NotCovered, OutputLength}
use Rattle.refusal.specs.Verdict.{Verdict}
use Rattle.refusal.specs.Verdict.{Accepted, Refused}
use Rattle.book.specs.Entries.{BookEntries, book_entries}
use Rattle.book.specs.Rules.{book_verdict}
use Rattle.forms.specs.Shape.{TextOf, of_shape, not_of_shape, answer}
use Rattle.booktext.specs.BookText.{book_text}
use Rattle.booktext.specs.WellFormed.{WellFormedBook}
use Rattle.booktext.specs.Record.{book_record}
use Rattle.bookreader.specs.declared.BookRead.{BookRead}
use Rattle.bookreader.specs.Reading.{book_answer, read_of}
use Rattle.printer.specs.Written.{written}
use Rattle.output.specs.Writing.{not_written, all_written}
use Rattle.output.proofs.Answers.{refused_before, too_short, in_full}
use Rattle.sampling.specs.Entries.{TableEntries}
use Rattle.roundtrip.proofs.Reading.{Answered, by_length, by_reading, read_answered}
use Rattle.roundtrip.proofs.Back.{book_accepted}
use Rattle.divisions.specs.Award.{Priced, award_of_book}
use Rattle.award.specs.declared.Award.{Award}
use Rattle.clearing.specs.declared.Clearing.{Clearing}
use Rattle.clearing.specs.Clearing.{clear_sampled}
use Rattle.clearing.proofs.Answers.{no_division, division}
use Rattle.awardtheorems.proofs.Cleared.{no_award_of_book}
use Rattle.bookanswers.specs.BookAnswers.{book_of}
use Rattle.tender.specs.FromText.{clear_text_sampled, written_as, output_as}
use Rattle.endtoend.proofs.ClearedText.{cleared_book_lem, accepted_text, was_read, its_award}
use Rattle.endtoend.specs.Outcome.{AcceptedText, NothingWritten, WholeText, Outcome, too_long, not_of_shape as other-shape, broken, not_covered, output_short, award_written}

-- what is written, from what clearing answered
module _ (text : Award → List ℕ) (cleared : Clearing) (out : List ℕ) where
  abbrev bytes : List ℕ
  bytes = text cleared.award

  pub nothing_written : (rule : Rule) (place : ℕ) → cleared.verdict ≡ Refused rule place → NothingWritten text cleared out rule place
  unfolding written_as output_as
  nothing_written rule place e =
      let (answer, exit) = refused_before cleared.verdict bytes out (not_written (Refused rule place)) (Refused rule place) refl (sym e) rule place refl in
      (sym answer, sym exit)

  -- cleared: said of any award that has the text of the one found
  module _ (accepted : cleared.verdict ≡ Accepted) (a : Award) (same : text a ≡ bytes) where
    pub refused_10 : length out < length (text a) → NothingWritten text cleared out OutputLength (length (text a))
    unfolding written_as output_as
    refused_10 h =
        let needed = length (text a) in
        let (answer, exit) = too_short cleared.verdict bytes out accepted needed (ap length same) (not_written (Refused OutputLength needed)) refl h in
        (sym answer, sym exit)

    pub text_written : length (text a) ≤ length out → WholeText text cleared out a
    unfolding written_as output_as
    text_written h =
        let needed = length (text a) in
        let (answer, exit) =
        in_full cleared.verdict bytes out accepted needed (ap length same) (all_written needed) refl h
        (written out 0 (text a)) (ap (written out 0) same) in
        (sym answer, sym exit)

module _ (text : Award → List ℕ) (table : TableEntries) (t out : List ℕ) where
  abbrev c : Clearing
  c = clear_text_sampled table t

  abbrev TextOutcome : Type 0
  TextOutcome = Outcome text table t c out

  pub refused_text : (rule : Rule) (place : ℕ) → (read_of t).verdict ≡ Refused rule place → NothingWritten text c out rule place
  unfolding clear_text_sampled
  refused_text rule place e = nothing_written text c out rule place (rw e)

  covered : c.verdict ≡ Accepted → TextOutcome
  covered e = go (leb (length (text c.award)) (length out)) refl
    where
      its_text : AcceptedText t (book_of t)
      its_text = accepted_text t (was_read table t e)

      go : (x : Bool) → leb (length (text c.award)) (length out) ≡ x → TextOutcome
      go true q =
          let h = leb-true (length (text c.award)) (length out) q in
          award_written (book_of t) its_text c.award (its_award table t e) h (text_written text c out e c.award refl h)
      go false q =
          let h = leb-false (length (text c.award)) (length out) q in
          output_short (book_of t) its_text c.award (its_award table t e) h (refused_10 text c out e c.award refl h)

  accepted_outcome : (read_of t).verdict ≡ Accepted → TextOutcome
  accepted_outcome accepted = go (award_of_book (book_of t)) refl
    where
      told : (x : Clearing) → clear_sampled table (book_of t) ≡ x → c.verdict ≡ x.verdict
      told x e = ap (λ (y : Clearing). y.verdict) (cleared_book_lem t accepted table ∙ e)

      go : (o : Option Priced) → award_of_book (book_of t) ≡ o → TextOutcome
      go none f =
          not_covered (book_of t) (accepted_text t accepted) ((no_award_of_book (book_of t)).0 f)
          (nothing_written text c out NotCovered 0 (told _ (no_division table (book_of t) (book_accepted t accepted) f)))
      go (some award) f = covered (told _ (division table (book_of t) award (book_accepted t accepted) f))

  of_shape_outcome : length t ≤ 4096 → (b : BookEntries) → TextOf WellFormedBook book_text t b → read_of t ≡ book_answer b → TextOutcome
  unfolding book_answer
  of_shape_outcome short b it e = go (book_verdict (book_entries (book_record b))) refl
    where
      go : (v : Verdict) → book_verdict (book_entries (book_record b)) ≡ v → TextOutcome
      go (Ok _) f = accepted_outcome (ap (λ (r : BookRead). r.verdict) e ∙ f)
      go (Err refusal) f = broken b (record { short = short; text = it }) refusal.rule refusal.place f (refused_text refusal.rule refusal.place (ap (λ (r : BookRead). r.verdict) e ∙ f))

  -- Whatever bytes a text has: if it is accepted and covered, the bytes written are the text of the award that no other division beats, or
  -- the output is too short for it; else the refusal is the stated one.
  pub whole : Outcome text table t (clear_text_sampled table t) out
  unfolding answer
  whole = go (read_answered t)
    where
      go : Answered t → TextOutcome
      go (by_length h q) = too_long h (refused_text TextLength 4096 (ap (λ (r : BookRead). r.verdict) q))
      go (by_reading h (of_shape b it) q) = of_shape_outcome h b it q
      go (by_reading h (not_of_shape n no_book it) q) =
          other-shape n (record { short = h; no_book = no_book; longest = it }) (refused_text Shape n (ap (λ (r : BookRead). r.verdict) q))
