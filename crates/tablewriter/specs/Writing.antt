-- Writing a sampling table: what every record and every lent output gets.
use Rattle.std.specs.Prelude.{ℕ, List}
use Rattle.refusal.specs.Verdict.{Verdict}
use Rattle.output.specs.declared.TextWritten.{TextWritten}
use Rattle.output.specs.Writing.{writing_verdict, written_of, output_after}
use Rattle.sampling.specs.declared.Table.{Table}
use Rattle.sampling.specs.Entries.{table_entries}
use Rattle.sampling.specs.Rules.{table_verdict}
use Rattle.tabletext.specs.TableText.{table_text}

abbrev pub table_text_of : Table → List ℕ
table_text_of table = table_text (table_entries table)

-- refused by rule 12, or by rule 10 where the output of `size` bytes is shorter than the text
abbrev pub write_table_verdict : Table → ℕ → Verdict
write_table_verdict table size = writing_verdict (table_verdict (table_entries table)) (table_text_of table) size

-- the number of bytes written, 0 with a refusal
abbrev pub write_table_of : Table → ℕ → TextWritten
write_table_of table size = written_of (table_verdict (table_entries table)) (table_text_of table) size

-- the output: the text, and what was past it; unchanged with a refusal
abbrev pub table_output_of : Table → List ℕ → List ℕ
table_output_of table out = output_after (table_verdict (table_entries table)) (table_text_of table) out
