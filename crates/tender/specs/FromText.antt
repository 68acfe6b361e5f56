-- What every text gets, of each answer that is worked out from its award. `size` is the length of the lent output and `out` its bytes.
use Rattle.std.specs.Prelude.{ℕ, List}
use Rattle.refusal.specs.Checks.{when_accepted}
use Rattle.output.specs.declared.TextWritten.{TextWritten}
use Rattle.output.specs.Writing.{written_of, output_after}
use Rattle.sampling.specs.Entries.{TableEntries}
use Rattle.sampling.specs.Sampling.{printed_table}
use Rattle.tablereader.specs.Reading.{read_table_of}
use Rattle.award.specs.declared.Award.{Award}
use Rattle.clearing.specs.declared.Clearing.{Clearing}
use Rattle.clearing.specs.Clearing.{clear_sampled, refused_clearing}
use Rattle.sheettext.specs.Sheet.{sheet_text, refusal_text}
use Rattle.pagetext.specs.Page.{page_text}
use Rattle.tableanswers.specs.TableAnswers.{table_in}
use Rattle.bookanswers.specs.BookAnswers.{answer_of}

-- the award of the book, sampled by a table: refused by 1, 2, 3 to 8, then 9
unfoldable pub clear_text_sampled : TableEntries → List ℕ → Clearing
clear_text_sampled table t = answer_of (clear_sampled table) refused_clearing t

-- by a table that comes as text: the table's refusals, by 1, 2 and 12, come before all of the book's
unfoldable pub cleared_by_table : List ℕ → List ℕ → Clearing
cleared_by_table s t = when_accepted (read_table_of s).verdict (clear_text_sampled (table_in s) t) (refused_clearing (read_table_of s).verdict)

-- ---- what was cleared, written as a text, of which `text` says what it is: refused as it was cleared, then by 10

unfoldable pub written_as : (Award → List ℕ) → Clearing → ℕ → TextWritten
written_as text cleared size = written_of cleared.verdict (text cleared.award) size

unfoldable pub output_as : (Award → List ℕ) → Clearing → List ℕ → List ℕ
output_as text cleared out = output_after cleared.verdict (text cleared.award) out

-- what a program prints: that text, or the line of the refusal
unfoldable pub printed_as : (Award → List ℕ) → Clearing → List ℕ
printed_as text cleared = when_accepted cleared.verdict (text cleared.award) (refusal_text cleared.verdict)

-- ---- by the printed table: the sheet and the page, and what the programs `clear` and `page` print

abbrev pub clear_text : List ℕ → Clearing
clear_text = clear_text_sampled printed_table

abbrev pub sheet_written : List ℕ → ℕ → TextWritten
sheet_written t = written_as sheet_text (clear_text t)

abbrev pub sheet_output : List ℕ → List ℕ → List ℕ
sheet_output t = output_as sheet_text (clear_text t)

abbrev pub page_written : List ℕ → ℕ → TextWritten
page_written t = written_as page_text (clear_text t)

abbrev pub page_output : List ℕ → List ℕ → List ℕ
page_output t = output_as page_text (clear_text t)

abbrev pub clear_prints : List ℕ → List ℕ
clear_prints t = printed_as sheet_text (clear_text t)

abbrev pub page_prints : List ℕ → List ℕ
page_prints t = printed_as page_text (clear_text t)
