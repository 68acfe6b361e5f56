-- What is answered about the text of a sampling table, and the printed table as text. `size` is the length of the lent output and `out` its
-- bytes.
use Rattle.std.specs.Prelude.{ℕ, List}
use Rattle.refusal.specs.Verdict.{Accepted}
use Rattle.output.specs.declared.TextWritten.{TextWritten}
use Rattle.output.specs.Writing.{written_of, output_after}
use Rattle.sampling.specs.Entries.{TableEntries, table_entries}
use Rattle.sampling.specs.Sampling.{printed_table}
use Rattle.tabletext.specs.TableText.{table_text}
use Rattle.tablereader.specs.Reading.{read_table_of}

-- the table that a text says, once it is accepted
abbrev pub table_in : List ℕ → TableEntries
table_in s = table_entries (read_table_of s).table

-- ---- the table written out again: refused by 1, 2 and 12, then by 10

unfoldable pub table_written : List ℕ → ℕ → TextWritten
table_written s size = written_of (read_table_of s).verdict (table_text (table_in s)) size

unfoldable pub table_output : List ℕ → List ℕ → List ℕ
table_output s out = output_after (read_table_of s).verdict (table_text (table_in s)) out

-- ---- the printed table as text: refused by 10 alone

unfoldable pub printed_written : ℕ → TextWritten
printed_written size = written_of Accepted (table_text printed_table) size

unfoldable pub printed_output : List ℕ → List ℕ
printed_output out = output_after Accepted (table_text printed_table) out
