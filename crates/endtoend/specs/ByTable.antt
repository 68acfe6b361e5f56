-- What a text t gets, cleared by a table that comes as the text s and lent an output with the bytes `out`: the table's refusals come first,
-- and else it has one of its outcomes, sampled by this table.
use Rattle.std.specs.Prelude.{ℕ, ◌≤◌, ◌<◌, List, ◌≡◌, length}
use Rattle.refusal.specs.declared.Rule.{Rule}
use Rattle.refusal.specs.declared.Rule.TheVariants.{TextLength, Shape, SamplingTable}
use Rattle.refusal.specs.Verdict.{Verdict}
use Rattle.refusal.specs.Verdict.{Accepted, Refused}
use Rattle.forms.specs.Shape.{TextOf}
use Rattle.sampling.specs.Entries.{TableEntries, table_entries}
use Rattle.sampling.specs.Rules.{table_verdict}
use Rattle.tabletext.specs.TableText.{table_text}
use Rattle.tabletext.specs.WellFormed.{WellFormedTable}
use Rattle.tabletext.specs.Record.{table_record}
use Rattle.roundtrip.specs.NotTableShape.{NotTableShape}
use Rattle.award.specs.declared.Award.{Award}
use Rattle.sheettext.specs.Sheet.{refusal_text}
use Rattle.tender.specs.FromText.{cleared_by_table, printed_as}
use Rattle.endtoend.specs.Outcome.{NothingWritten, Outcome, PrintOutcome}

-- rule 12 on the table that a text says: that on its record, which holds the first sixteen bands beside the text's count
abbrev pub table_text_verdict : TableEntries → Verdict
table_text_verdict e = table_verdict (table_entries (table_record e))

-- s is the text of the table e
pub record TableSays (s : List ℕ) (e : TableEntries) : Type 0 where
  pub short : length s ≤ 4096
  pub text : TextOf WellFormedTable table_text s e

-- s is the text of the table e, which passes
pub record AcceptedTable (s : List ℕ) (e : TableEntries) : Type 0 where
  pub says : TableSays s e
  pub accepted : table_text_verdict e ≡ Accepted

module _ (text : Award → List ℕ) (s t out : List ℕ) where
  -- no byte is written
  abbrev pub RefusedByTable : Rule → ℕ → Type 0
  RefusedByTable rule place = NothingWritten text (cleared_by_table s t) out rule place

  pub data OutcomeByTable : Type 0 where
    -- 1: the table's text is longer than 4,096 bytes
    table_too_long : 4096 < length s → RefusedByTable TextLength 4096 → OutcomeByTable
    -- 2: no table has this text
    table_not_of_shape : (place : ℕ) → NotTableShape s place → RefusedByTable Shape place → OutcomeByTable
    -- 12: the table breaks a rule
    table_broken : (e : TableEntries) → TableSays s e → (line : ℕ) → table_text_verdict e ≡ Refused SamplingTable line
        → RefusedByTable SamplingTable line → OutcomeByTable
    -- the table passes, and t has its outcome by it
    by_its_table : (e : TableEntries) → AcceptedTable s e → Outcome text e t (cleared_by_table s t) out → OutcomeByTable

-- What a program prints for t with the table s: the line of the refusal that the table gets in every output, or what is printed by this table.
pub data PrintOutcomeByTable (text : Award → List ℕ) (s t : List ℕ) : Type 0 where
  table_line : (rule : Rule) (place : ℕ) → ((out : List ℕ) → RefusedByTable text s t out rule place)
      → printed_as text (cleared_by_table s t) ≡ refusal_text (Refused rule place) → PrintOutcomeByTable text s t
  printed_by_table : (e : TableEntries) → AcceptedTable s e → PrintOutcome text e t (cleared_by_table s t) → PrintOutcomeByTable text s t
