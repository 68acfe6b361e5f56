-- Reading and writing a sampling table together: a table written out reads back as the same table, an accepted text written out again is the
-- same text, and what the answer tells of a text; by the laws of any kind of text (`textreading`, `Texts`). Assumes nothing.
use Prim.Native.Nat.{ℕ, suc, ◌≤◌, ◌<◌}
use native.Mathlib.Omega.{arith}
use mathlib.Core.List.{List, []}
use mathlib.Core.Path.{◌≡◌, refl, sym, ap, ◌∙◌, subst}
use lib.ListN.{length, take}
use Rattle.std.specs.Prelude.{Ok, Err}
use Rattle.refusal.specs.Number.{rule_number}
use Rattle.refusal.specs.declared.Rule.{Rule}
use Rattle.refusal.specs.declared.Rule.TheVariants.{TextLength, Shape, SamplingTable}
use Rattle.refusal.specs.Verdict.{Verdict}
use Rattle.refusal.specs.Verdict.{Accepted, Refused}
use Rattle.refusal.proofs.Refusals.{RefusedBy}
use Rattle.forms.specs.Shape.{TextOf, Begins}
use Rattle.forms.specs.Word.{word_parse}
use Rattle.forms.proofs.Whole.{one_meaning}
use Rattle.textreading.proofs.Answers.{read_other, read_stopped}
use Rattle.textreading.proofs.Told as Told
use Rattle.printer.specs.Written.{written}
use Rattle.sampling.specs.declared.Table.{Table}
use Rattle.sampling.specs.Entries.{TableEntries, table_entries, SameTable}
use Rattle.sampling.specs.Sampling.{printed_bands, printed_table}
use Rattle.sampling.specs.Rules.{table_verdict}
use Rattle.tablerules.proofs.Passing.{printed_passes}
use Rattle.tablerules.proofs.Refusals.{refused_by_12, record_line}
use Rattle.tabletext.specs.TableText.{table_text}
use Rattle.tabletext.specs.WellFormed.{WellFormedTable}
use Rattle.tabletext.specs.Record.{table_record}
use Rattle.tabletext.specs.Arrays.{SixteenBands}
use Rattle.tabletext.proofs.TableForm.{table_laws}
use Rattle.tabletext.proofs.Records.{entries_of_record, record_full}
use Rattle.tabletext.proofs.Accepted.{well_formed, same_record, text_short}
use Rattle.tablereader.specs.Reading.{refused_table, read_table_of, printed_read}
use Rattle.tablereader.proofs.Answers.{tables}
use Rattle.tablewriter.specs.Writing.{table_text_of, write_table_verdict, write_table_of, table_output_of}
use Rattle.roundtrip.specs.NotTableShape.{NotTableShape}
use Rattle.roundtrip.proofs.Texts as Any

short : (t : Table) → SixteenBands t → table_verdict (table_entries t) ≡ Accepted → length (table_text_of t) ≤ 4096
short t full passes = omega (arith, text_short t full passes)

kept : Any.Kept tables SixteenBands
kept = record { well_formed = well_formed; text_short = short; same_record = same_record; full = record_full; zeros_full = refl; entries_of_record = entries_of_record }

-- the text of a record that passes is accepted, and is read as the same table
pub table_reads_back : (r : Table) → SixteenBands r → table_verdict (table_entries r) ≡ Accepted
    → ((read_table_of (table_text_of r)).verdict ≡ Accepted) × SameTable (read_table_of (table_text_of r)).table r
table_reads_back = Any.reads_back kept

-- reading what was written gives the same table
pub table_read_written : (r : Table) (out : List ℕ) → SixteenBands r → write_table_verdict r (length out) ≡ Accepted
    → ((read_table_of (take (write_table_of r (length out)).bytes (table_output_of r out))).verdict ≡ Accepted) × SameTable
    (read_table_of (take (write_table_of r (length out)).bytes (table_output_of r out))).table r
table_read_written = Any.read_written kept

-- an accepted text
module _ (t : List ℕ) (accepted : (read_table_of t).verdict ≡ Accepted) where
  -- it is the text of the table that is read, which is of the shape
  pub table_text_read : TextOf WellFormedTable table_text t (table_entries (read_table_of t).table)
  table_text_read = Any.text_read kept t accepted

  pub same_table_text : table_text_of (read_table_of t).table ≡ t
  same_table_text = Any.same_text kept t accepted

  -- which passes rule 12
  pub table_passes : table_verdict (table_entries (read_table_of t).table) ≡ Accepted
  table_passes = Any.held_passes kept t accepted

  -- with zeros past the count
  pub table_zeros_past : (read_table_of t).table ≡ table_record (table_entries (read_table_of t).table)
  table_zeros_past = Any.zeros_past kept t accepted

  -- writing what was read gives the same text, where the output has room for it
  pub table_written_read : (out : List ℕ) → length t ≤ length out
      → (write_table_of (read_table_of t).table (length out) ≡ record { verdict = Accepted; bytes = length t }) × (table_output_of (read_table_of t).table out ≡ written out 0 t)
  table_written_read = Any.written_read kept t accepted

-- whatever the text, the record has its array in full
pub table_full : (t : List ℕ) → SixteenBands (read_table_of t).table
table_full = Any.read_full kept

-- a text is accepted exactly if it is the text of a table that passes, and then means that table
pub accepted_table_text : (t : List ℕ) → (read_table_of t).verdict ≡ Accepted
    → (r : Table) × SixteenBands r × (table_verdict (table_entries r) ≡ Accepted) × (t ≡ table_text_of r)
accepted_table_text t accepted = ((read_table_of t).table, table_full t, table_passes t accepted, sym (same_table_text t accepted))

pub table_text_accepted : (t : List ℕ) (r : Table) → SixteenBands r → table_verdict (table_entries r) ≡ Accepted → t ≡ table_text_of r
    → ((read_table_of t).verdict ≡ Accepted) × SameTable (read_table_of t).table r
table_text_accepted t r full passes = Any.text_accepted kept r full passes t

-- no table is refused by the rule for a text's shape
not_shape : (e : TableEntries) (n : ℕ) → table_verdict e ≡ Refused Shape n → ⊥
not_shape e n q = omega (arith, ap rule_number (refused_by_12 e Shape n q).0)

-- refused by rule 1, 2 or 12, and then all zeros
pub table_refused_by : (P : Rule → ℕ → Type 0) → P TextLength 4096 → ((n : ℕ) → n ≤ 4096 → P Shape n)
    → ((line : ℕ) → 1 ≤ line → line ≤ 17 → P SamplingTable line)
    → (t : List ℕ)
    → RefusedBy P (read_table_of t).verdict
table_refused_by P long other line t = Told.refused_by_lem tables t P long other (λ e. go e (table_verdict (table_entries (table_record e))) refl)
  where
    go : (e : TableEntries) (v : Verdict) → table_verdict (table_entries (table_record e)) ≡ v → RefusedBy P v
    go e (Ok _) q = tt
    go e (Err refusal) q =
        let (by-12, low, _) = refused_by_12 (table_entries (table_record e)) refusal.rule refusal.place q in
        let high = record_line (table_record e) (record_full e) refusal.rule refusal.place q in
        subst (λ (r : Rule). P r refusal.place) (sym by-12) (line refusal.place low high)

pub table_refused_zeros : (t : List ℕ) (rule : Rule) (place : ℕ) → (read_table_of t).verdict ≡ Refused rule place → read_table_of t ≡ refused_table rule place
table_refused_zeros = Told.refused_answer_lem tables

-- refusal 2 tells that the text is not of the shape, with the longest beginning, and the reverse
pub table_refused_place : (t : List ℕ) (n : ℕ) → (read_table_of t).verdict ≡ Refused Shape n → NotTableShape t n
table_refused_place t n e =
    let (few, none, longest) = Told.refused_place tables t not_shape n e in
    record { short = few; no_table = none; longest = longest }

pub table_place_refused : (t : List ℕ) (n : ℕ) → NotTableShape t n → read_table_of t ≡ refused_table Shape n
table_place_refused t n s = sym (read_other tables t s.short n s.no_table s.longest)

-- in other words: some text of the shape has these first n bytes, and none has these first n + 1, or the text ends there
pub table_first_bytes : (t : List ℕ) (n : ℕ) → NotTableShape t n → Begins WellFormedTable table_text (take n t)
table_first_bytes t n s = s.longest.begins

pub table_one_byte_more : (t : List ℕ) (n : ℕ) → NotTableShape t n → n < length t → Begins WellFormedTable table_text (take (suc n) t) → ⊥
table_one_byte_more t n s h b = omega (arith, s.longest.longest (suc n) h b)

-- a text without a band is refused at its beginning
pub no_bands : read_table_of [] ≡ refused_table Shape 0
unfolding word_parse
no_bands = sym (read_stopped tables [] (omega arith) 0 (record { finds = refl; from = omega arith; to = omega arith }))

-- a text means one table
pub one_table : (t : List ℕ) (a b : TableEntries) → TextOf WellFormedTable table_text t a → TextOf WellFormedTable table_text t b → a ≡ b
one_table = one_meaning table_laws

-- the printed table is what its text is read as
pub printed_entries : table_entries (table_record printed_table) ≡ printed_table
unfolding table_record printed_bands
printed_entries = refl

pub printed_read_lem : read_table_of (table_text printed_table) ≡ printed_read
printed_read_lem =
    ap (λ (e : TableEntries). read_table_of (table_text e)) (sym printed_entries)
    ∙ Any.read_record kept (table_record printed_table) (record_full printed_table) (ap table_verdict printed_entries ∙ printed_passes)
    ∙ ap (λ (e : TableEntries). record { verdict = Accepted; table = table_record e }) printed_entries
