-- What the figures of a text tell: of an accepted one, its own length; and of every one, that its sheet is within the limit, so that an output
-- of so many bytes is never too short. Assumes nothing.
use Prim.Native.Nat.{ℕ, ◌+◌, ◌*◌, ◌≤◌}
use mathlib.Core.List.{List}
use mathlib.Core.Path.{◌≡◌, ap, ◌∙◌}
use lib.ListN.{length}
use Rattle.refusal.specs.declared.Rule.{Rule}
use Rattle.refusal.specs.declared.Rule.TheVariants.{OutputLength}
use Rattle.refusal.specs.Verdict.{Accepted, Refused}
use Rattle.book.specs.Entries.{BookEntries}
use Rattle.bookreader.specs.Reading.{read_of}
use Rattle.sampling.specs.Entries.{TableEntries}
use Rattle.sampling.specs.Rules.{table_verdict}
use Rattle.sampling.specs.Sampling.{printed_table}
use Rattle.tablerules.proofs.Passing.{printed_passes, sample_small}
use Rattle.roundtrip.proofs.Back.{same_text, book_accepted, arrays_read}
use Rattle.award.specs.declared.Award.{Award}
use Rattle.awardtheorems.proofs.Amounts.{SmallSamples}
use Rattle.sizes.specs.declared.BookSizes.{BookSizes}
use Rattle.sizes.specs.Sizes.{sheet_limit, figures_of, refused_sizes}
use Rattle.sizes.proofs.Answers.{sizes_accepted}
use Rattle.sheettext.specs.Sheet.{sheet_text}
use Rattle.bookanswers.specs.BookAnswers.{book_of, sizes_text}
use Rattle.tender.specs.FromText.{clear_text_sampled, clear_text, cleared_by_table, written_as, sheet_written}
use Rattle.endtoend.proofs.Places.{before_output}
use Rattle.endtoend.proofs.ClearedText.{of_records, was_read}
use Rattle.endtoend.proofs.LongEnough.{same_verdict, never_10}
use Rattle.endtoend.proofs.Fits.{sheet_bound}
use Rattle.endtoend.proofs.FitsByTable.{before_by_table, fits_by_table}
use Rattle.sizetheorems.specs.TheSizes.{TheSizes}
use Rattle.sizetheorems.proofs.Records.{sizes_tell}

-- an accepted text
module _ (t : List ℕ) (accepted : (read_of t).verdict ≡ Accepted) where
  its_figures : sizes_text t ≡ figures_of (book_of t)
  unfolding sizes_text
  its_figures = rw accepted (sizes_accepted (book_of t) (book_accepted t accepted))

  pub own_length : (sizes_text t).bytes ≡ length t
  own_length = ap (λ (z : BookSizes). z.bytes) its_figures ∙ ap length (same_text t accepted)

  pub text_sizes_tell : TheSizes (read_of t).book (sizes_text t)
  unfolding sizes_text
  text_sizes_tell = rw accepted (sizes_tell (read_of t).book (arrays_read t accepted) (book_accepted t accepted))

module _ (t : List ℕ) where
  -- zeros beside a refusal
  pub text_refused : (rule : Rule) (place : ℕ) → (read_of t).verdict ≡ Refused rule place → sizes_text t ≡ refused_sizes (Refused rule place)
  unfolding sizes_text
  text_refused rule place e = rw e

  sheet_small : (table : TableEntries) → SmallSamples table → (clear_text_sampled table t).verdict ≡ Accepted
      → length (sheet_text (clear_text_sampled table t).award) ≤ (sizes_text t).sheet
  unfolding sheet_limit
  sheet_small table small cleared =
      rw (its_figures t (was_read table t cleared))
      (of_records table t cleared (λ (b : BookEntries) (a : Award). length (sheet_text a) ≤ 39 + 66 * b.count) (sheet_bound table small))

  -- the sheet, if there is one, is within the limit, with any table that passes
  pub sheet_within : (table : TableEntries) → table_verdict table ≡ Accepted → (clear_text_sampled table t).verdict ≡ Accepted
      → length (sheet_text (clear_text_sampled table t).award) ≤ (sizes_text t).sheet
  sheet_within table passes = sheet_small table (sample_small table passes)

  -- an output of so many bytes, or more, gets the verdict of clearing, and never 10: by the printed table
  module _ (out : List ℕ) (enough : (sizes_text t).sheet ≤ length out) where
    pub limit_enough : (sheet_written t (length out)).verdict ≡ (clear_text t).verdict
    limit_enough = same_verdict sheet_text (sizes_text t).sheet (clear_text t) (before_output t printed_table) (sheet_within printed_table printed_passes) out enough

    pub limit_never_short : (place : ℕ) → (sheet_written t (length out)).verdict ≡ Refused OutputLength place → ⊥
    limit_never_short =
        never_10 sheet_text (sizes_text t).sheet (clear_text t) (before_output t printed_table) (sheet_within printed_table printed_passes) out enough

-- and by a table that comes as text, where it passes
module _ (s t : List ℕ) where
  pub sheet_within_by_table : (cleared_by_table s t).verdict ≡ Accepted → length (sheet_text (cleared_by_table s t).award) ≤ (sizes_text t).sheet
  sheet_within_by_table = fits_by_table s t sheet_text (sizes_text t).sheet (sheet_small t)

  module _ (out : List ℕ) (enough : (sizes_text t).sheet ≤ length out) where
    pub limit_enough_by_table : (written_as sheet_text (cleared_by_table s t) (length out)).verdict ≡ (cleared_by_table s t).verdict
    limit_enough_by_table = same_verdict sheet_text (sizes_text t).sheet (cleared_by_table s t) (before_by_table s t) sheet_within_by_table out enough

    pub limit_never_short_by_table : (place : ℕ) → (written_as sheet_text (cleared_by_table s t) (length out)).verdict ≡ Refused OutputLength place → ⊥
    limit_never_short_by_table = never_10 sheet_text (sizes_text t).sheet (cleared_by_table s t) (before_by_table s t) sheet_within_by_table out enough
