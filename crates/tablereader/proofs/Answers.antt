-- The sampling table as a kind of text, for the laws of `textreading`. Assumes nothing.
use Prim.Native.Nat.{ℕ}
use mathlib.Core.Bool.{cond}
use mathlib.Core.List.{List}
use mathlib.Core.Path.{◌≡◌, refl}
use lib.Dec.{leb}
use lib.ListN.{length}
use Rattle.std.specs.Prelude.{Result, Ok, Err}
use Rattle.refusal.specs.Checks.{when_accepted}
use Rattle.refusal.specs.declared.Refusal.{Refusal}
use Rattle.refusal.specs.declared.Rule.TheVariants.{TextLength, Shape}
use Rattle.forms.specs.Shape.{answer}
use Rattle.textreading.proofs.Kind.{Kind}
use Rattle.textreading.proofs.Outcome.{answer_accepted, answer_refused}
use Rattle.sampling.specs.declared.Table.{Table}
use Rattle.sampling.specs.Entries.{TableEntries, table_entries}
use Rattle.sampling.specs.Rules.{table_verdict}
use Rattle.tabletext.specs.TableText.{table_text}
use Rattle.tabletext.specs.WellFormed.{WellFormedTable}
use Rattle.tabletext.specs.Record.{table_record, empty_table}
use Rattle.tabletext.specs.TableForm.{table}
use Rattle.tabletext.proofs.TableForm.{table_laws, table_reading}
use Rattle.tablereader.specs.declared.TableRead.{TableRead}
use Rattle.tablereader.specs.Reading.{refused_table, table_answer, read_table_of, table_of_text, table_told}

pub answer_is : (t : TableEntries)
    → let v = table_verdict (table_entries (table_record t)) in table_answer t ≡ record { verdict = v; table = when_accepted v (table_record t) empty_table }
unfolding table_answer
answer_is t = refl

pub read_is : (t : List ℕ) → read_table_of t ≡ cond (leb (length t) 4096)
    (answer WellFormedTable table_text table_answer (refused_table Shape) (table_reading t)) (refused_table TextLength 4096)
unfolding read_table_of
read_is t = refl

abbrev pub tables : Kind TableEntries Table TableRead
tables = record {
  form = table;
  laws = table_laws;
  reading = table_reading;
  record_of = table_record;
  entries_of = table_entries;
  verdict_of = table_verdict;
  zeros = empty_table;
  answering = λ v r. record { verdict = v; table = r };
  verdict_in = λ c. c.verdict;
  record_in = λ c. c.table;
  verdict_in_lem = λ v r. refl;
  record_in_lem = λ v r. refl;
  answer_of = table_answer;
  answer_is = answer_is;
  read_of = read_table_of;
  read_is = read_is;
}

-- the answer is told by its outcome
pub told_back : (t : List ℕ) (read : Result Table Refusal) → read ≡ table_of_text t → table_told read ≡ read_table_of t
told_back t (Ok table) e = answer_accepted tables t table e
told_back t (Err refusal) e = answer_refused tables t refusal e
