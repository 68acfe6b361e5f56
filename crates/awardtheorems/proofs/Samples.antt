-- The samples of every cleared book, by a table that passes: each is that of the one band in which the quantity lies, and never more than the
-- quantity. Assumes nothing.
use Prim.Native.Nat.{ℕ, ◌≤◌, ◌<◌}
use native.Mathlib.Omega.{arith}
use mathlib.Core.Path.{◌≡◌, sym, ap, ◌∙◌, subst}
use lib.ListN.{length}
use Rattle.refusal.specs.Verdict.{Accepted}
use Rattle.book.specs.declared.Book.{Book}
use Rattle.book.specs.Entries.{book_entries}
use Rattle.sampling.specs.Entries.{TableEntries}
use Rattle.sampling.specs.Bands.{band_at, LiesIn}
use Rattle.sampling.specs.Sampling.{sample_of}
use Rattle.sampling.specs.Rules.{table_verdict}
use Rattle.tablerules.proofs.Passing.{zero_samples_zero, every_quantity_lies, sample_in_band, sample_at_most, sample_small}
use Rattle.award.specs.declared.Row.{Row}
use Rattle.award.specs.Award.{row_of}
use Rattle.clearing.specs.Clearing.{clear_sampled}
use Rattle.awardtheorems.specs.Awarded.{row_at}
use Rattle.awardtheorems.proofs.Cleared.{row_is}
use Rattle.awardtheorems.proofs.Amounts.{rows_up_to}

module _ (table : TableEntries) (passes : table_verdict table ≡ Accepted) (book : Book) (held : length book.bids ≡ 8)
    (accepted : (clear_sampled table (book_entries book)).verdict ≡ Accepted) (i : ℕ) (here : i < book.count) where
  abbrev row : Row
  row = row_at (clear_sampled table (book_entries book)).award i

  by_the_table : row.sample.0 ≡ sample_of table row.quantity.0
  unfolding row_of
  by_the_table =
      let e = row_is table book held accepted i here in
      ap (λ (r : Row). r.sample.0) e ∙ ap (λ (r : Row). sample_of table r.quantity.0) (sym e)

  -- a bidder who sells something: the sample of the band in which the quantity lies; there is no second one (`no_second_band`)
  pub sample_of_its_band : 1 ≤ row.quantity.0 → (k : ℕ) × LiesIn table k row.quantity.0 × (row.sample.0 ≡ (band_at table k).sample)
  sample_of_its_band some =
      let most = (rows_up_to table book held accepted (sample_small table passes) i here).quantity in
      let (k, lies) = every_quantity_lies table passes row.quantity.0 some (omega (arith, most)) in
      (k, lies, by_the_table ∙ sample_in_band table passes k row.quantity.0 lies)

  pub nothing_sampled : row.quantity.0 ≡ 0 → row.sample.0 ≡ 0
  nothing_sampled e = by_the_table ∙ ap (sample_of table) e ∙ zero_samples_zero table

  pub sample_within : row.sample.0 ≤ row.quantity.0
  sample_within = subst (λ (n : ℕ). n ≤ row.quantity.0) (sym by_the_table) (sample_at_most table passes row.quantity.0)
