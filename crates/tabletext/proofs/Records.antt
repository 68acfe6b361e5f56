-- What a record holds of the bands of a text: the first sixteen, then zeros; and the entries that it gives back. Assumes nothing.
use Prim.Native.Nat.{◌≤◌}
use native.Mathlib.Omega.{arith}
use mathlib.Core.Path.{◌≡◌, ap, ◌∙◌}
use lib.ListN.{take, replicate}
use lib.Seq.{take_all, take_at}
use Rattle.lists.specs.Padded.{padded}
use Rattle.lists.proofs.Padded.{length_padded, take_count}
use Rattle.refusal.specs.Verdict.{Accepted}
use Rattle.sampling.specs.declared.Table.{Table}
use Rattle.sampling.specs.Entries.{TableEntries, table_entries}
use Rattle.sampling.specs.Rules.{table_verdict}
use Rattle.tablerules.proofs.Passing.{count_most}
use Rattle.tabletext.specs.Arrays.{SixteenBands}
use Rattle.tabletext.specs.WellFormed.{WellFormedTable}
use Rattle.tabletext.specs.Record.{empty_band, table_record}

module _ (t : TableEntries) (well_formed : WellFormedTable t) where
  -- a table for which a record has room
  pub entries_back : t.count ≤ 16 → table_entries (table_record t) ≡ t
  unfolding table_record
  entries_back few = let same = take_count 16 t.count empty_band t.bands well_formed.count few in rw same

  -- the count stays as it is, so that a record that passes had room
  pub entries_of_record : table_verdict (table_entries (table_record t)) ≡ Accepted → table_entries (table_record t) ≡ t
  unfolding table_record
  entries_of_record accepted = entries_back (count_most (table_entries (table_record t)) accepted)

-- a record has its array in full
pub record_full : (t : TableEntries) → SixteenBands (table_record t)
unfolding table_record
record_full t = length_padded 16 empty_band t.bands

-- a record that counts sixteen bands is the record of what it means
pub record_of_sixteen : (t : Table) → SixteenBands t → t.count ≡ 16 → t ≡ table_record (table_entries t)
unfolding table_record
record_of_sixteen t full all =
    let same : padded 16 empty_band (take t.count t.bands) ≡ t.bands =
    ap (padded 16 empty_band) (take_all t.count t.bands (omega arith)) ∙ take_at t.bands (replicate 16 empty_band) 16 full in
    rw same
