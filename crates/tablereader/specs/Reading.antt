-- Reading a sampling table: what every text gets.
use Rattle.std.specs.Prelude.{ℕ, cond, List, leb, length, Result, Ok, Err}
use Rattle.refusal.specs.Checks.{when_accepted}
use Rattle.refusal.specs.declared.Refusal.{Refusal}
use Rattle.refusal.specs.declared.Rule.{Rule}
use Rattle.refusal.specs.declared.Rule.TheVariants.{TextLength, Shape}
use Rattle.refusal.specs.Verdict.{Accepted, Refused}
use Rattle.forms.specs.Shape.{answer}
use Rattle.textreading.specs.Outcome.{or_refusal}
use Rattle.sampling.specs.declared.Table.{Table}
use Rattle.sampling.specs.Entries.{TableEntries, table_entries}
use Rattle.sampling.specs.Sampling.{printed_table}
use Rattle.sampling.specs.Rules.{table_verdict}
use Rattle.tabletext.specs.TableText.{table_text}
use Rattle.tabletext.specs.WellFormed.{WellFormedTable}
use Rattle.tabletext.specs.Record.{table_record, empty_table}
use Rattle.tabletext.proofs.TableForm.{table_reading}
use Rattle.tablereader.specs.declared.TableRead.{TableRead}

-- with a refusal the table is all zeros
abbrev pub refused_table : Rule → ℕ → TableRead
refused_table rule place = record { verdict = Refused rule place; table = empty_table }

-- the text of a table: the first line of its record that breaks rule 12, or the record
unfoldable pub table_answer : TableEntries → TableRead
table_answer t =
    let verdict = table_verdict (table_entries (table_record t)) in
    record { verdict = verdict; table = when_accepted verdict (table_record t) empty_table }

-- Any text: refused by its length, or answered by what it is, a table's text or not of the shape. That every text has such a reading is the
-- theorem `table_reading`, the one thing of proofs/ that a definition names here. Which reading it gives makes no difference
-- (textreading/proofs/Answers.antt: `any_reading`).
unfoldable pub read_table_of : List ℕ → TableRead
read_table_of t =
    cond (leb (length t) 4096) (answer WellFormedTable table_text table_answer (refused_table Shape) (table_reading t))
    (refused_table TextLength 4096)

-- the same as one value: the table of a text, or the refusal
abbrev pub table_of_text : List ℕ → Result Table Refusal
table_of_text t = or_refusal (read_table_of t).verdict (read_table_of t).table

-- what is answered of it
abbrev pub table_told : Result Table Refusal → TableRead
table_told (Ok table) = record { verdict = Accepted; table = table }
table_told (Err refusal) = record { verdict = Err refusal; table = empty_table }

-- the printed table, which passes (tablerules/proofs/Passing.antt: `printed_passes`)
abbrev pub printed_read : TableRead
printed_read = record { verdict = Accepted; table = table_record printed_table }
