-- What holds of every table that passes rule 12: each quantity from 1 to 1,000,000 lies in exactly one band and has its sample, and no sample
-- is more than its quantity. The printed table passes. Each band keeps the rules beside the band before it, and the last ends on 1,000,000.
-- Assumes nothing.
use Prim.Native.Nat.{ℕ, zero, suc, ◌≤◌, ◌<◌}
use native.Mathlib.Nat.{le_of_suc-le-suc, eq-or-lt_of_le}
use native.Mathlib.Numerals.{add-one}
use native.Mathlib.Omega.{arith}
use mathlib.Core.Bool.{Bool, true, false}
use mathlib.Core.List.{List, [], ◌∷◌}
use mathlib.Core.Logic.{◌⊎◌, inl, inr, ⊎_elim}
use mathlib.Core.Path.{◌≡◌, refl, sym, ap, subst, ◌∙◌}
use borrow.Author.Tests.{leb-true, leb-false, ltb-true, eqb-true}
use lib.Dec.{leb}
use lib.ListN.{length, get_or}
use lib.Seq.{slice, take_all, length-take-le}
use Rattle.lists.specs.All.{All}
use Rattle.lists.proofs.All.{all_indexed}
use Rattle.refusal.specs.Verdict.{Accepted}
use Rattle.refusal.proofs.Firsts.{all_passed, test_holds}
use Rattle.sampling.specs.declared.Band.{Band}
use Rattle.sampling.specs.declared.Table.{Table}
use Rattle.sampling.specs.Entries.{TableEntries, table_entries}
use Rattle.sampling.specs.Sampling.{band, printed_bands, printed_table, sample_above, sample_of}
use Rattle.sampling.specs.Rules.{band_keeps, bands_verdict, last_highest, table_verdict}
use Rattle.sampling.specs.Bands.{band_at, band_before, highest_before, LiesIn}
use Rattle.sampling.proofs.Scan.{scan_next, scan_stop, scan_done, zero_samples}
use Rattle.sampling.proofs.Bands.{Kept, kept_at, last_at}

pub printed_passes : table_verdict printed_table ≡ Accepted
unfolding table_verdict bands_verdict band_keeps last_highest printed_bands
printed_passes = refl

-- quantity 0 lies in no band of any table
pub zero_samples_zero : (t : TableEntries) → sample_of t 0 ≡ 0
unfolding sample_of
zero_samples_zero t = zero_samples 0 t.bands

-- the checks in their order
record Passes (t : TableEntries) : Type 0 where
  some_band : 1 ≤ t.count
  lines : bands_verdict 1 (band 0 0) t.bands ≡ Accepted
  few_bands : t.count ≤ 16
  ends : last_highest 0 t.bands ≡ 1000000

passes : (t : TableEntries) → table_verdict t ≡ Accepted → Passes t
unfolding table_verdict
passes t e =
    let (some_band, (lines, (few_bands, (ends, _)))) = all_passed (_ ∷ _ ∷ _ ∷ _ ∷ []) e in
    record {
      some_band = ltb-true 0 t.count (test_holds _ _ _ some_band);
      lines = lines;
      few_bands = leb-true t.count 16 (test_holds _ _ _ few_bands);
      ends = eqb-true (last_highest 0 t.bands) 1000000 (test_holds _ _ _ ends);
    }

-- numbers of at most seven and five digits
abbrev pub BandInRange : Band → Type 0
BandInRange b = (b.highest ≤ 1000000) × (1 ≤ b.sample) × (b.sample ≤ 99999)

before_at : (t : TableEntries) (k : ℕ) → get_or (band 0 0 ∷ t.bands) k (band 0 0) ≡ band_before t k
before_at t zero = refl
before_at t (suc k) = refl

-- what never falls from one index to the next never falls
not_below : (f : ℕ → ℕ) (n : ℕ) → ((k : ℕ) → suc k < n → f k ≤ f (suc k)) → (j k : ℕ) → j ≤ k → k < n → f j ≤ f k
not_below f n step j zero h l = let e : j ≡ 0 = omega arith in rw e (omega arith)
not_below f n step j (suc k) h l =
    ⊎_elim
    (λ e. rw e (omega arith))
    (λ m. omega (arith, not_below f n step j k (le_of_suc-le-suc m) (omega arith), step k l))
    (eq-or-lt_of_le h)

within_or_above : (a b : ℕ) → (a ≤ b) ⊎ (b < a)
within_or_above a b = go (leb a b) refl
  where
    go : (t : Bool) → leb a b ≡ t → (a ≤ b) ⊎ (b < a)
    go true e = inl (leb-true a b e)
    go false e = inr (leb-false a b e)

module _ (t : TableEntries) (accepted : table_verdict t ≡ Accepted) where
  pub count_least : 1 ≤ t.count
  count_least = (passes t accepted).some_band

  pub count_most : t.count ≤ 16
  count_most = (passes t accepted).few_bands

  kept : (k : ℕ) → k < length t.bands → Kept (band_before t k) (band_at t k)
  kept k h = subst (λ (b : Band). Kept b (band_at t k)) (before_at t k) (kept_at 1 (band 0 0) t.bands (passes t accepted).lines k h)

  ends : highest_before t (length t.bands) ≡ 1000000
  ends =
      ap (λ (b : Band). b.highest) (sym (before_at t (length t.bands)))
      ∙ sym (last_at (band 0 0) t.bands)
      ∙ (passes t accepted).ends

  pub bands_in_range : All BandInRange t.bands
  bands_in_range =
      all_indexed BandInRange (band 0 0) t.bands (λ k h. let b = kept k h in (b.highest_most, b.sample_least, b.sample_most))

  -- a band lies above every band before it, and its sample is no less
  above_band : (j k : ℕ) → j < k → k < length t.bands → (band_at t j).highest ≤ highest_before t k
  above_band j zero h l = absurd (omega arith)
  above_band j (suc k) h l =
      not_below (λ (i : ℕ). (band_at t i).highest) (length t.bands) (λ i m. omega (arith, (kept (suc i) m).rises)) j k (le_of_suc-le-suc h) (omega arith)

  sample_no_less : (j k : ℕ) → j ≤ k → k < length t.bands → (band_at t j).sample ≤ (band_at t k).sample
  sample_no_less = not_below (λ (i : ℕ). (band_at t i).sample) (length t.bands) (λ i m. (kept (suc i) m).never_falls)

  -- a quantity that is not above the first n bands lies in one of them
  reached : (n q : ℕ) → n ≤ length t.bands → 1 ≤ q → q ≤ highest_before t n → (k : ℕ) × LiesIn t k q
  reached zero q h low high = absurd (omega arith)
  reached (suc n) q h low high =
      ⊎_elim
      (λ l. reached n q (omega arith) low l)
      (λ l. (n, record { there = h; above = l; within = high }))
      (within_or_above q (highest_before t n))

  pub every_quantity_lies : (q : ℕ) → 1 ≤ q → q ≤ 1000000 → (k : ℕ) × LiesIn t k q
  every_quantity_lies q low high = reached (length t.bands) q (omega arith) low (omega (arith, ends))

  -- a quantity in a band is below every later band
  not_later : (j k q : ℕ) → LiesIn t j q → LiesIn t k q → j < k → ⊥
  not_later j k q l m h = omega (arith, above_band j k h m.there, l.within, m.above)

  pub no_second_band : (j k q : ℕ) → LiesIn t j q → LiesIn t k q → j ≡ k
  no_second_band j k q l m =
      ⊎_elim
      (λ h. ⊎_elim (λ e. e) (λ n. absurd (not_later j k q l m n)) (eq-or-lt_of_le h))
      (λ h. absurd (not_later k j q m l h))
      (within_or_above j k)

  -- the sample of a quantity above the first k bands is by the bands after them
  above_first : (k q : ℕ) → k ≤ length t.bands → highest_before t k < q
      → sample_of t q ≡ sample_above (highest_before t k) (slice k (length t.bands) t.bands) q
  unfolding sample_of
  above_first zero q h l = ap (λ (bs : List Band). sample_above 0 bs q) (sym (take_all (length t.bands) t.bands (omega arith)))
  above_first (suc k) q h l =
      let above : highest_before t k < q = omega (arith, (kept k h).rises) in
      above_first k q (omega arith) above
      ∙ rw add-one at (scan_next (highest_before t k) q t.bands k (length t.bands) above h (omega arith) l)

  pub sample_in_band : (k q : ℕ) → LiesIn t k q → sample_of t q ≡ (band_at t k).sample
  sample_in_band k q l =
      above_first k q (omega (arith, l.there)) l.above
      ∙ scan_stop (highest_before t k) q t.bands k (length t.bands) l.above l.there (omega arith) l.within

  pub beyond_samples_zero : (q : ℕ) → 1000000 < q → sample_of t q ≡ 0
  beyond_samples_zero q h =
      let n = length t.bands in
      above_first n q (omega arith) (omega (arith, ends)) ∙ scan_done (highest_before t n) q t.bands n n (omega arith) (omega arith)

  -- every quantity samples 0, or lies in a band and has its sample
  sampled : (q : ℕ) → (sample_of t q ≡ 0) ⊎ ((k : ℕ) × LiesIn t k q)
  sampled zero = inl (zero_samples_zero t)
  sampled (suc q) = ⊎_elim (λ h. inr (every_quantity_lies (suc q) (omega arith) h)) (λ h. inl (beyond_samples_zero (suc q) h)) (within_or_above (suc q) 1000000)

  pub sample_at_most : (q : ℕ) → sample_of t q ≤ q
  sample_at_most q =
      ⊎_elim
      (λ e. omega arith)
      (λ m. let (k, l) = m in omega (arith, sample_in_band k q l, (kept k l.there).within_lowest, l.above))
      (sampled q)

  pub sample_small : (q : ℕ) → sample_of t q ≤ 99999
  sample_small q =
      ⊎_elim (λ e. omega arith) (λ m. let (k, l) = m in omega (arith, sample_in_band k q l, (kept k l.there).sample_most)) (sampled q)

  pub some_sample : (q : ℕ) → 1 ≤ q → q ≤ 1000000 → 1 ≤ sample_of t q
  some_sample q low high =
      let (k, l) = every_quantity_lies q low high in
      omega (arith, sample_in_band k q l, (kept k l.there).sample_least)

  pub samples_rise : (p q : ℕ) → p ≤ q → q ≤ 1000000 → sample_of t p ≤ sample_of t q
  samples_rise p q h most = ⊎_elim (λ e. omega arith) (λ m. go m.0 m.1) (sampled p)
    where
      go : (j : ℕ) → LiesIn t j p → sample_of t p ≤ sample_of t q
      go j l =
          let (k, m) = every_quantity_lies q (omega (arith, l.above)) most in
          ⊎_elim
          (λ n. omega (arith, sample_in_band j p l, sample_in_band k q m, sample_no_less j k n m.there))
          (λ n. absurd (omega (arith, above_band k j n l.there, l.above, m.within)))
          (within_or_above j k)

-- a record that passes holds each band that it counts
pub all_held : (table : Table) → length table.bands ≡ 16 → table_verdict (table_entries table) ≡ Accepted → length (table_entries table).bands ≡ table.count
all_held table held accepted = length-take-le table.count table.bands (omega (arith, count_most (table_entries table) accepted))
