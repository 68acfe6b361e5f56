-- Of a cleared text, and of its award as numbers for C: refusal 9 exactly when its book has no division, an award exactly when it has
-- one. Assumes nothing.
use Prim.Native.Nat.{ℕ, ◌*◌, ◌≤◌}
use native.Mathlib.Omega.{arith}
use mathlib.Core.Bool.{Bool, true, false}
use mathlib.Core.List.{List, [], ◌∷◌}
use mathlib.Core.Logic.{◌↔◌}
use mathlib.Core.Path.{◌≡◌, refl, sym, ap, ◌∙◌, subst}
use borrow.Author.Tests.{leb-true, le-leb}
use lib.Dec.{leb}
use Rattle.std.specs.Prelude.{Ok, Err}
use Rattle.lists.specs.Every.{every}
use Rattle.refusal.specs.Checks.{unless, first_of}
use Rattle.refusal.specs.Number.{number_of}
use Rattle.refusal.specs.declared.Rule.TheVariants.{NotCovered, OutputLength}
use Rattle.refusal.specs.Verdict.{Verdict}
use Rattle.refusal.specs.Verdict.{Accepted, Refused}
use Rattle.refusal.proofs.Firsts.{all_passed, test_holds}
use Rattle.book.specs.Entries.{BookEntries, book_entries}
use Rattle.book.proofs.Refusals.{never_by}
use Rattle.booktext.specs.Record.{book_record}
use Rattle.output.specs.declared.TextWritten.{TextWritten}
use Rattle.sampling.specs.Entries.{TableEntries}
use Rattle.awardtheorems.specs.Awarded.{awarded}
use Rattle.sheettext.specs.Sheet.{sheet_text}
use Rattle.bookanswers.specs.BookAnswers.{book_of}
use Rattle.tender.specs.FromText.{clear_text_sampled, written_as}
use Rattle.awardnumbers.specs.Numbers.{numbers_verdict}
use Rattle.endtoend.specs.Outcome.{CoveredText, UncoveredText, Outcome, too_long, not_of_shape, broken, not_covered, output_short, award_written}
use Rattle.endtoend.proofs.ClearedText.{accepted_text, was_read, its_award}
use Rattle.endtoend.proofs.Whole.{nothing_written, whole}
use Rattle.endtoend.proofs.Given.{same_book, covered, uncovered}

module _ (table : TableEntries) (t : List ℕ) where
  -- refusal 9 is the outcome of a book without a division, and of nothing else
  its_nine : (clear_text_sampled table t).verdict ≡ Refused NotCovered 0 → (b : BookEntries) × UncoveredText t b
  unfolding every
  its_nine e = go (whole sheet_text table t [])
    where
      nine : (written_as sheet_text (clear_text_sampled table t) 0).verdict ≡ Refused NotCovered 0
      nine = ap (λ (w : TextWritten). w.verdict) (nothing_written sheet_text (clear_text_sampled table t) [] NotCovered 0 e).0

      told : {w : TextWritten} → written_as sheet_text (clear_text_sampled table t) 0 ≡ w → w.verdict ≡ Refused NotCovered 0
      told f = sym (ap (λ (w : TextWritten). w.verdict) f) ∙ nine

      go : Outcome sheet_text table t (clear_text_sampled table t) [] → (b : BookEntries) × UncoveredText t b
      go (too_long h f) = absurd (omega (arith, ap number_of (told f.0)))
      go (not_of_shape place h f) = absurd (omega (arith, ap number_of (told f.0)))
      go (broken b says rule line g f) = absurd (never_by NotCovered refl (book_entries (book_record b)) 0 (g ∙ told f.0))
      go (not_covered b is no_division f) = (b, (is, no_division))
      go (output_short b is a award h f) = absurd (omega (arith, ap number_of (told f.0)))
      go (award_written b is a award h f) = absurd (omega (arith, ap number_of (told f.0)))

  pub nine_iff : ((clear_text_sampled table t).verdict ≡ Refused NotCovered 0) ↔ ((b : BookEntries) × UncoveredText t b)
  nine_iff = (its_nine, λ (b, (is, no_division)). uncovered t b is table no_division)

  -- what was read is a book with the division that the award is
  its_book : (clear_text_sampled table t).verdict ≡ Accepted → CoveredText t (book_of t)
  its_book e = (accepted_text t (was_read table t e), ((awarded (clear_text_sampled table t).award).quantities, (its_award table t e).best.division))

  pub award_iff : ((clear_text_sampled table t).verdict ≡ Accepted) ↔ ((b : BookEntries) × CoveredText t b)
  award_iff = (λ e. (book_of t, its_book e), λ (b, (is, (rs, d))). covered t b is table rs d)

-- for C, where the lent list has `size` numbers: too short a list is refused after 9, and else there is an award
module _ (table : TableEntries) (t : List ℕ) (size : ℕ) where
  abbrev count : ℕ
  count = (clear_text_sampled table t).award.count

  -- 9 comes from clearing: the list's length gives 10 alone
  cleared_first : (v w : Verdict) → number_of w ≡ 9 → (fits : Bool) → first_of (v ∷ unless fits OutputLength (56 * count) ∷ []) ≡ w → v ≡ w
  cleared_first (Err refusal) w h fits e = e
  cleared_first (Ok _) w h true e = absurd (omega (arith, ap number_of e))
  cleared_first (Ok _) w h false e = absurd (omega (arith, ap number_of e))

  pub numbers_nine_iff : (numbers_verdict (clear_text_sampled table t) size ≡ Refused NotCovered 0) ↔ ((b : BookEntries) × UncoveredText t b)
  unfolding numbers_verdict
  numbers_nine_iff = (
    λ e. (nine_iff table t).0 (cleared_first (clear_text_sampled table t).verdict (Refused NotCovered 0) refl (leb (7 * count) size) e),
    λ h. let nine = (nine_iff table t).1 h in rw nine,
  )

  pub numbers_award_iff : (numbers_verdict (clear_text_sampled table t) size ≡ Accepted) ↔ ((b : BookEntries) × CoveredText t b × (7 * b.count ≤ size))
  unfolding numbers_verdict
  numbers_award_iff = (to, from)
    where
      to : numbers_verdict (clear_text_sampled table t) size ≡ Accepted → (b : BookEntries) × CoveredText t b × (7 * b.count ≤ size)
      to e =
          let long = leb (7 * count) size in
          let (accepted, (fits, _)) = all_passed ((clear_text_sampled table t).verdict ∷ unless long OutputLength (56 * count) ∷ []) e in
          let enough = leb-true (7 * count) size (test_holds long OutputLength (56 * count) fits) in
          (book_of t, its_book table t accepted, subst (λ (n : ℕ). 7 * n ≤ size) (its_award table t accepted).count enough)

      from : (b : BookEntries) × CoveredText t b × (7 * b.count ≤ size) → numbers_verdict (clear_text_sampled table t) size ≡ Accepted
      from (b, is, h) =
          let accepted = (award_iff table t).1 (b, is) in
          let counted : count ≡ b.count = (its_award table t accepted).count ∙ ap (λ (x : BookEntries). x.count) (same_book t b is.0) in
          rw (accepted, le-leb (7 * count) size (subst (λ (n : ℕ). 7 * n ≤ size) (sym counted) h))
