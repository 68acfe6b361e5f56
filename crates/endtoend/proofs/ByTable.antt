-- Demand 3 from the bytes of a table and of a text to the bytes of the award: every table, text and output have one of the outcomes, and what
-- each table gets, given what it is. Assumes nothing.
use Prim.Native.Nat.{ℕ, ◌≤◌, ◌<◌}
use mathlib.Core.List.{List}
use mathlib.Core.Path.{◌≡◌, refl, sym, ap, ◌∙◌, subst}
use lib.ListN.{length}
use Rattle.std.specs.Prelude.{Ok, Err}
use Rattle.refusal.specs.declared.Rule.{Rule}
use Rattle.refusal.specs.declared.Rule.TheVariants.{TextLength, Shape, SamplingTable}
use Rattle.refusal.specs.Verdict.{Verdict}
use Rattle.refusal.specs.Verdict.{Accepted, Refused}
use Rattle.forms.specs.Shape.{TextOf, of_shape, not_of_shape, answer}
use Rattle.textreading.proofs.Answers.{read_text, read_long}
use Rattle.textreading.proofs.Told.{Answered, by_length, by_reading, read_answered, accepted_as}
use Rattle.sampling.specs.declared.Table.{Table}
use Rattle.sampling.specs.Entries.{TableEntries, table_entries}
use Rattle.sampling.specs.Rules.{table_verdict}
use Rattle.tablerules.proofs.Refusals.{refused_by_12}
use Rattle.tabletext.specs.TableText.{table_text}
use Rattle.tabletext.specs.WellFormed.{WellFormedTable}
use Rattle.tabletext.specs.Record.{table_record}
use Rattle.tablereader.specs.declared.TableRead.{TableRead}
use Rattle.tablereader.specs.Reading.{table_answer, read_table_of}
use Rattle.tablereader.proofs.Answers.{tables}
use Rattle.roundtrip.specs.NotTableShape.{NotTableShape}
use Rattle.roundtrip.proofs.Tables.{table_text_read, table_passes, table_zeros_past, table_place_refused}
use Rattle.award.specs.declared.Award.{Award}
use Rattle.clearing.specs.declared.Clearing.{Clearing}
use Rattle.tableanswers.specs.TableAnswers.{table_in}
use Rattle.tender.specs.FromText.{cleared_by_table, printed_as}
use Rattle.endtoend.specs.Outcome.{Outcome, PrintOutcome}
use Rattle.endtoend.specs.ByTable.{table_text_verdict, TableSays, AcceptedTable, RefusedByTable, OutcomeByTable, table_too_long, table_not_of_shape, table_broken, by_its_table, PrintOutcomeByTable, table_line, printed_by_table}
use Rattle.endtoend.proofs.Whole.{nothing_written, whole}
use Rattle.endtoend.proofs.Prints.{prints}
use Rattle.endtoend.proofs.Loaded.{refused_table_lem, loaded_table}

verdict_of_lem : {r q : TableRead} → r ≡ q → r.verdict ≡ q.verdict
verdict_of_lem e = ap (λ (r : TableRead). r.verdict) e

-- the table that is read is the one that its text says
its_table : (s : List ℕ) → length s ≤ 4096 → (read_table_of s).verdict ≡ Accepted → AcceptedTable s (table_in s)
its_table s short e = record {
  says = record { short = short; text = table_text_read s e };
  accepted = ap (λ (r : Table). table_verdict (table_entries r)) (sym (table_zeros_past s e)) ∙ table_passes s e;
}

module _ (text : Award → List ℕ) (s t out : List ℕ) where
  refused : (rule : Rule) (place : ℕ) → (read_table_of s).verdict ≡ Refused rule place → RefusedByTable text s t out rule place
  refused rule place e =
      nothing_written text (cleared_by_table s t) out rule place (ap (λ (c : Clearing). c.verdict) (refused_table_lem s t rule place e))

  -- given what s is
  pub table_gets_1 : 4096 < length s → RefusedByTable text s t out TextLength 4096
  table_gets_1 h = refused TextLength 4096 (verdict_of_lem (sym (read_long tables s h)))

  pub table_gets_2 : (place : ℕ) → NotTableShape s place → RefusedByTable text s t out Shape place
  table_gets_2 place h = refused Shape place (verdict_of_lem (table_place_refused s place h))

  pub table_gets_12 : (e : TableEntries) → TableSays s e → (line : ℕ) → table_text_verdict e ≡ Refused SamplingTable line
      → RefusedByTable text s t out SamplingTable line
  unfolding table_answer
  table_gets_12 e says line f = refused SamplingTable line (verdict_of_lem (sym (read_text tables s says.short e says.text)) ∙ f)

  -- and the other way round
  passes : length s ≤ 4096 → (read_table_of s).verdict ≡ Accepted → OutcomeByTable text s t out
  passes short e =
      by_its_table (table_in s) (its_table s short e)
      (subst (λ (c : Clearing). Outcome text (table_in s) t c out) (sym (loaded_table s t e)) (whole text (table_in s) t out))

  of_shape_outcome : length s ≤ 4096 → (e : TableEntries) → TextOf WellFormedTable table_text s e → read_table_of s ≡ table_answer e → OutcomeByTable text s t out
  unfolding table_answer
  of_shape_outcome short e it q = go (table_text_verdict e) refl
    where
      go : (v : Verdict) → table_text_verdict e ≡ v → OutcomeByTable text s t out
      go (Ok _) f = passes short (verdict_of_lem q ∙ f)
      go (Err refusal) f =
          let twelve : table_text_verdict e ≡ Refused SamplingTable refusal.place =
          f ∙ ap (λ (r : Rule). Refused r refusal.place) (refused_by_12 (table_entries (table_record e)) refusal.rule refusal.place f).0 in
          table_broken e (record { short = short; text = it }) refusal.place twelve (refused SamplingTable refusal.place (verdict_of_lem q ∙ twelve))

  -- Whatever bytes a table and a text have: the table is refused with the stated number and place, whatever the text is, or the text has its
  -- outcome, sampled by this table.
  pub whole_by_table : OutcomeByTable text s t out
  unfolding answer
  whole_by_table = go (read_answered tables s)
    where
      go : Answered tables s → OutcomeByTable text s t out
      go (by_length h q) = table_too_long h (refused TextLength 4096 (verdict_of_lem q))
      go (by_reading h (of_shape e it) q) = of_shape_outcome h e it q
      go (by_reading h (not_of_shape n none it) q) =
          table_not_of_shape n (record { short = h; no_table = none; longest = it }) (refused Shape n (verdict_of_lem q))

-- and what a program prints, likewise
pub prints_by_table : (text : Award → List ℕ) (s t : List ℕ) → PrintOutcomeByTable text s t
unfolding printed_as
prints_by_table text s t = go (read_table_of s).verdict refl
  where
    go : (v : Verdict) → (read_table_of s).verdict ≡ v → PrintOutcomeByTable text s t
    go (Ok _) e =
        printed_by_table (table_in s) (its_table s (accepted_as tables s e).1.short e)
        (subst (PrintOutcome text (table_in s) t) (sym (loaded_table s t e)) (prints text (table_in s) t))
    go (Err refusal) e =
        table_line refusal.rule refusal.place (λ out. refused text s t out refusal.rule refusal.place e) (rw (refused_table_lem s t refusal.rule refusal.place e))
