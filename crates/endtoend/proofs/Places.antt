-- A text is cleared, or refused by another rule than that for the output's length, at a line, at a place among at most 4,096 bytes, or
-- at 0. Assumes nothing.
use Prim.Native.Nat.{ℕ, ◌≤◌}
use native.Mathlib.Omega.{arith}
use mathlib.Core.List.{List, map}
use mathlib.Core.Option.{Option, some, none}
use mathlib.Core.Path.{◌≡◌, refl, sym, subst}
use lib.ListN.{length, take, length-map}
use Rattle.std.specs.Prelude.{Ok, Err}
use Rattle.lists.specs.Every.{every}
use Rattle.lists.proofs.Padded.{length_padded}
use Rattle.lists.proofs.Slices.{take_most}
use Rattle.refusal.specs.declared.Rule.{Rule}
use Rattle.refusal.specs.declared.Rule.TheVariants.{OutputLength}
use Rattle.refusal.specs.Verdict.{Verdict}
use Rattle.refusal.specs.Verdict.{Accepted, Refused}
use Rattle.refusal.proofs.Refusals.{RefusedBy, Other}
use Rattle.book.specs.Entries.{BookEntries, bid_entries, book_entries}
use Rattle.book.specs.Rules.{book_verdict}
use Rattle.book.proofs.Refusals.{by_other, record_line}
use Rattle.forms.specs.Shape.{of_shape, not_of_shape, answer}
use Rattle.booktext.specs.Record.{empty_bid, bid_record, book_record}
use Rattle.bookreader.specs.declared.BookRead.{BookRead}
use Rattle.bookreader.specs.Reading.{book_answer, read_of}
use Rattle.sampling.specs.Entries.{TableEntries}
use Rattle.roundtrip.proofs.Reading.{Answered, by_length, by_reading, read_answered}
use Rattle.roundtrip.proofs.Back.{book_accepted}
use Rattle.divisions.specs.Award.{Priced, award_of_book}
use Rattle.clearing.specs.declared.Clearing.{Clearing}
use Rattle.clearing.specs.Clearing.{clear_sampled}
use Rattle.clearing.proofs.Answers.{no_division, division}
use Rattle.bookanswers.specs.BookAnswers.{book_of}
use Rattle.tender.specs.FromText.{clear_text_sampled}

-- another rule, at such a place
abbrev pub OfText : Rule → ℕ → Type 0
OfText rule place = Other OutputLength rule × (place ≤ 4096)

-- accepted, or refused before the output is looked at
abbrev pub BeforeOutput : Verdict → Type 0
BeforeOutput verdict = RefusedBy OfText verdict

few_bids : (b : BookEntries) → length (book_entries (book_record b)).bids ≤ 8
unfolding book_record
few_bids b =
    let bids = (book_record b).bids in
    omega (arith, length-map (take b.count bids) bid_entries, (take_most b.count bids).1, length_padded 8 empty_bid (map bid_record b.bids))

book_before : (b : BookEntries) → BeforeOutput (book_verdict (book_entries (book_record b)))
unfolding every
book_before b = go (book_verdict (book_entries (book_record b))) refl
  where
    go : (v : Verdict) → book_verdict (book_entries (book_record b)) ≡ v → BeforeOutput v
    go (Ok _) e = tt
    go (Err refusal) e =
        let record_of = book_entries (book_record b) in (
          by_other OutputLength refl record_of refusal.rule refusal.place e,
          omega (arith, record_line record_of refusal.rule refusal.place (few_bids b) e),
        )

clear_before : (table : TableEntries) (b : BookEntries) → book_verdict b ≡ Accepted → BeforeOutput (clear_sampled table b).verdict
clear_before table b accepted = go (award_of_book b) refl
  where
    go : (o : Option Priced) → award_of_book b ≡ o → BeforeOutput (clear_sampled table b).verdict
    go none e = subst (λ (c : Clearing). BeforeOutput c.verdict) (sym (no_division table b accepted e)) (refl, omega arith)
    go (some award) e = subst (λ (c : Clearing). BeforeOutput c.verdict) (sym (division table b award accepted e)) tt

module _ (t : List ℕ) where
  read_before : BeforeOutput (read_of t).verdict
  unfolding answer book_answer
  read_before = go (read_answered t)
    where
      told : (r : BookRead) → read_of t ≡ r → BeforeOutput r.verdict → BeforeOutput (read_of t).verdict
      told r e h = subst (λ (x : BookRead). BeforeOutput x.verdict) (sym e) h

      go : Answered t → BeforeOutput (read_of t).verdict
      go (by_length h e) = told _ e (refl, omega arith)
      go (by_reading h (of_shape b it) e) = told _ e (book_before b)
      go (by_reading h (not_of_shape n no_book it) e) = told _ e (refl, omega (arith, it.within))

  pub before_output : (table : TableEntries) → BeforeOutput (clear_text_sampled table t).verdict
  unfolding clear_text_sampled
  before_output table = go (read_of t).verdict refl
    where
      go : (v : Verdict) → (read_of t).verdict ≡ v → BeforeOutput (clear_text_sampled table t).verdict
      go (Ok _) e = rw e (clear_before table (book_of t) (book_accepted t e))
      go (Err refusal) e = let small : BeforeOutput (Refused refusal.rule refusal.place) = rw e at read_before in rw e small
