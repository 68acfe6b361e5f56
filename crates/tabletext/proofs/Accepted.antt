-- A record that passes has a text of at most 336 bytes, and the record of this text is the same table. Assumes nothing.
use Prim.Native.Nat.{◌≤◌}
use native.Mathlib.Omega.{arith}
use mathlib.Core.Path.{◌≡◌, sym}
use lib.ListN.{length, length-append}
use Rattle.lists.proofs.All.{all_from}
use Rattle.lists.proofs.Joined.{joined_short}
use Rattle.refusal.specs.Verdict.{Accepted}
use Rattle.forms.proofs.Digits.{length_below, few_digits}
use Rattle.sampling.specs.declared.Band.{Band}
use Rattle.sampling.specs.declared.Table.{Table}
use Rattle.sampling.specs.Entries.{table_entries, SameTable}
use Rattle.sampling.specs.Rules.{table_verdict}
use Rattle.tablerules.proofs.Passing.{count_least, count_most, bands_in_range, all_held}
use Rattle.tabletext.specs.Arrays.{SixteenBands}
use Rattle.tabletext.specs.TableText.{band_text, table_text}
use Rattle.tabletext.specs.WellFormed.{WellFormedBand, WellFormedTable}
use Rattle.tabletext.specs.Record.{table_record}
use Rattle.tabletext.proofs.Records.{entries_back}

-- the numbers of a band are in their ranges
abbrev InRange : Band → Type 0
InRange b = (b.highest ≤ 1000000) × (1 ≤ b.sample) × (b.sample ≤ 99999)

well_formed_band : (b : Band) → InRange b → WellFormedBand b
well_formed_band b r = record { highest = few_digits _ (omega (arith, r.0)); sample = few_digits _ (omega (arith, r.2)) }

-- `(band 1000000 99999)` and byte 10
band_short : (b : Band) → InRange b → length (band_text b) ≤ 21
unfolding band_text
band_short b r =
    let highest = length_below 6 b.highest (omega (arith, r.0)) in
    let sample = length_below 4 b.sample (omega (arith, r.2)) in
    simp length-append (omega arith)

module _ (t : Table) (full : SixteenBands t) (accepted : table_verdict (table_entries t) ≡ Accepted) where
  pub well_formed : WellFormedTable (table_entries t)
  well_formed = record {
    count = sym (all_held t full accepted);
    some = count_least (table_entries t) accepted;
    bands = all_from _ WellFormedBand well_formed_band (table_entries t).bands (bands_in_range (table_entries t) accepted);
  }

  pub same_record : SameTable (table_record (table_entries t)) t
  same_record = entries_back (table_entries t) well_formed (count_most (table_entries t) accepted)

  -- sixteen lines of at most 21 bytes
  pub text_short : length (table_text (table_entries t)) ≤ 336
  unfolding table_text
  text_short =
      let bands = (table_entries t).bands in
      let each = all_from _ _ band_short bands (bands_in_range (table_entries t) accepted) in
      omega (arith, joined_short band_text 21 bands each, all_held t full accepted, count_most (table_entries t) accepted)
