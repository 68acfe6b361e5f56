-- 600 bytes hold every sheet, sampled by any table that passes, and every line of a refusal. Assumes nothing.
use Prim.Native.Nat.{ℕ, ◌≤◌}
use native.Mathlib.Omega.{arith}
use mathlib.Core.List.{List}
use mathlib.Core.Path.{◌≡◌, refl, subst}
use lib.ListN.{length}
use Rattle.refusal.specs.declared.Rule.TheVariants.{OutputLength}
use Rattle.refusal.specs.Verdict.{Accepted, Refused}
use Rattle.refusal.proofs.Firsts.{refused_not}
use Rattle.sampling.specs.Entries.{TableEntries}
use Rattle.tablerules.proofs.Passing.{sample_small}
use Rattle.tablereader.specs.Reading.{read_table_of}
use Rattle.roundtrip.proofs.Tables.{table_passes, table_refused_by}
use Rattle.award.specs.declared.Award.{Award}
use Rattle.clearing.specs.declared.Clearing.{Clearing}
use Rattle.awardtheorems.proofs.Amounts.{SmallSamples}
use Rattle.sheettext.specs.Sheet.{sheet_text}
use Rattle.tableanswers.specs.TableAnswers.{table_in}
use Rattle.tender.specs.FromText.{clear_text_sampled, cleared_by_table, written_as, printed_as}
use Rattle.endtoend.proofs.Places.{OfText, BeforeOutput, before_output}
use Rattle.endtoend.proofs.LongEnough.{printed_fits, same_verdict, never_10}
use Rattle.endtoend.proofs.Fits.{in_600}
use Rattle.endtoend.proofs.Loaded.{either_way}

-- no table that passes samples more than 99,999 blanks
pub loaded_small : (s : List ℕ) → (read_table_of s).verdict ≡ Accepted → SmallSamples (table_in s)
loaded_small s e = sample_small (table_in s) (table_passes s e)

module _ (s t : List ℕ) where
  table_before : BeforeOutput (read_table_of s).verdict
  table_before = table_refused_by OfText (refl, omega arith) (λ n h. (refl, h)) (λ line low high. (refl, omega arith)) s

  -- refused, by the table or by the text, before the output is looked at
  pub before_by_table : BeforeOutput (cleared_by_table s t).verdict
  before_by_table =
      either_way s t (λ (c : Clearing). BeforeOutput c.verdict) (λ rule place e. subst BeforeOutput e table_before)
      (λ e. before_output t (table_in s))

  -- what is known of the text of every award by a table without large samples is known by a table that passes
  pub fits_by_table : (text : Award → List ℕ) (most : ℕ)
      → ((table : TableEntries) → SmallSamples table → (clear_text_sampled table t).verdict ≡ Accepted → length (text (clear_text_sampled table t).award) ≤ most)
      → (cleared_by_table s t).verdict ≡ Accepted → length (text (cleared_by_table s t).award) ≤ most
  fits_by_table text most fits =
      either_way s t (λ (c : Clearing). c.verdict ≡ Accepted → length (text c.award) ≤ most) (λ rule place e h. refused_not h)
      (λ e. fits (table_in s) (loaded_small s e))

  sheet_in_600 : (cleared_by_table s t).verdict ≡ Accepted → length (sheet_text (cleared_by_table s t).award) ≤ 600
  sheet_in_600 = fits_by_table sheet_text 600 (λ table small. in_600 table small t)

  pub prints_fit_by_table : length (printed_as sheet_text (cleared_by_table s t)) ≤ 600
  prints_fit_by_table = printed_fits sheet_text 600 (cleared_by_table s t) before_by_table sheet_in_600 (omega arith)

  pub never_short_by_table : (out : List ℕ) → 600 ≤ length out → (place : ℕ)
      → (written_as sheet_text (cleared_by_table s t) (length out)).verdict ≡ Refused OutputLength place → ⊥
  never_short_by_table = never_10 sheet_text 600 (cleared_by_table s t) before_by_table sheet_in_600

  pub sheet_verdict_by_table : (out : List ℕ) → 600 ≤ length out
      → (written_as sheet_text (cleared_by_table s t) (length out)).verdict ≡ (cleared_by_table s t).verdict
  sheet_verdict_by_table = same_verdict sheet_text 600 (cleared_by_table s t) before_by_table sheet_in_600
