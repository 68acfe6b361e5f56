-- What clearing answers by a table that comes as text: the table's refusal, or what it answers by that table. Assumes nothing.
use Prim.Native.Nat.{ℕ}
use mathlib.Core.List.{List}
use mathlib.Core.Path.{◌≡◌, refl, sym, ap, ◌∙◌, subst}
use Rattle.std.specs.Prelude.{Ok, Err}
use Rattle.refusal.specs.declared.Rule.{Rule}
use Rattle.refusal.specs.Verdict.{Verdict}
use Rattle.refusal.specs.Verdict.{Accepted, Refused}
use Rattle.textreading.proofs.Answers.{read_text, accepted_answer}
use Rattle.sampling.specs.Entries.{TableEntries, table_entries}
use Rattle.sampling.specs.Sampling.{printed_table}
use Rattle.sampling.specs.Rules.{table_verdict}
use Rattle.tabletext.specs.TableText.{table_text}
use Rattle.tabletext.specs.Record.{table_record}
use Rattle.tabletext.proofs.Records.{entries_of_record}
use Rattle.tablereader.specs.declared.TableRead.{TableRead}
use Rattle.tablereader.specs.Reading.{read_table_of}
use Rattle.tablereader.proofs.Answers.{tables}
use Rattle.roundtrip.proofs.Tables.{printed_entries, printed_read_lem}
use Rattle.clearing.specs.declared.Clearing.{Clearing}
use Rattle.clearing.specs.Clearing.{refused_clearing}
use Rattle.tableanswers.specs.TableAnswers.{table_in}
use Rattle.tender.specs.FromText.{clear_text_sampled, cleared_by_table, clear_text}
use Rattle.endtoend.specs.ByTable.{AcceptedTable}

module _ (s t : List ℕ) where
  pub refused_table_lem : (rule : Rule) (place : ℕ) → (read_table_of s).verdict ≡ Refused rule place → cleared_by_table s t ≡ refused_clearing (Refused rule place)
  unfolding cleared_by_table
  refused_table_lem rule place e = rw e

  pub loaded_table : (read_table_of s).verdict ≡ Accepted → cleared_by_table s t ≡ clear_text_sampled (table_in s) t
  unfolding cleared_by_table
  loaded_table e = rw e

  -- what holds of a refusal of the table, and of the answer by a table that passes, holds of the answer
  pub either_way : (P : Clearing → Type 0) → ((rule : Rule) (place : ℕ) → (read_table_of s).verdict ≡ Refused rule place → P (refused_clearing (Refused rule place)))
      → ((read_table_of s).verdict ≡ Accepted → P (clear_text_sampled (table_in s) t)) → P (cleared_by_table s t)
  either_way P refused accepted = go (read_table_of s).verdict refl
    where
      go : (v : Verdict) → (read_table_of s).verdict ≡ v → P (cleared_by_table s t)
      go (Ok _) e = subst P (sym (loaded_table e)) (accepted e)
      go (Err refusal) e = subst P (sym (refused_table_lem refusal.rule refusal.place e)) (refused refusal.rule refusal.place e)

-- given the table that s says
module _ (s : List ℕ) (e : TableEntries) (is : AcceptedTable s e) where
  read_as_table : read_table_of s ≡ record { verdict = Accepted; table = table_record e }
  read_as_table = sym (read_text tables s is.says.short e is.says.text) ∙ accepted_answer tables e is.accepted

  pub same_table : table_in s ≡ e
  same_table = ap (λ (r : TableRead). table_entries r.table) read_as_table ∙ entries_of_record e is.says.text.well_formed is.accepted

  -- by rule 12 on the table itself too
  pub keeps_12 : table_verdict e ≡ Accepted
  keeps_12 = ap table_verdict (sym (entries_of_record e is.says.text.well_formed is.accepted)) ∙ is.accepted

  -- what is answered is what is answered by this table
  pub by_table : (t : List ℕ) → cleared_by_table s t ≡ clear_text_sampled e t
  by_table t = loaded_table s t (ap (λ (r : TableRead). r.verdict) read_as_table) ∙ ap (λ (x : TableEntries). clear_text_sampled x t) same_table

-- with the text of the printed table everything is as without a table
pub as_printed : (t : List ℕ) → cleared_by_table (table_text printed_table) t ≡ clear_text t
as_printed t =
    loaded_table (table_text printed_table) t (ap (λ (r : TableRead). r.verdict) printed_read_lem)
    ∙ ap (λ (r : TableRead). clear_text_sampled (table_entries r.table) t) printed_read_lem
    ∙ ap (λ (x : TableEntries). clear_text_sampled x t) printed_entries
