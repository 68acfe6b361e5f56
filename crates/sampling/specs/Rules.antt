-- Rule 12 of document 02, change 3: the first line of a sampling table that breaks one of its rules. Its bands are lines 1 and on.
use Rattle.std.specs.Prelude.{ℕ, ◌+◌, Bool, ◌&&◌, List, [], ◌∷◌, leb, ltb, eqb}
use Rattle.refusal.specs.Checks.{unless, first_of}
use Rattle.refusal.specs.declared.Rule.TheVariants.{SamplingTable}
use Rattle.refusal.specs.Verdict.{Verdict}
use Rattle.refusal.specs.Verdict.{Accepted}
use Rattle.sampling.specs.declared.Band.{Band}
use Rattle.sampling.specs.Entries.{TableEntries}
use Rattle.sampling.specs.Sampling.{band}

-- a band begins one above the band before it, the first at 1
abbrev pub lowest : Band → ℕ
lowest before = before.highest + 1

-- A band after another one: quantities rise strictly, up to 1,000,000; samples never fall, from 1 to 99,999; and no sample is more than the
-- lowest quantity of its band.
unfoldable pub band_keeps : Band → Band → Bool
band_keeps before b =
    ltb before.highest b.highest
    && leb b.highest 1000000
    && leb 1 b.sample
    && leb b.sample 99999
    && leb before.sample b.sample
    && leb b.sample (lowest before)

-- the bands from a line on; before the first stands one of zeros
unfoldable pub bands_verdict : ℕ → Band → List Band → Verdict
bands_verdict line before [] = Accepted
bands_verdict line before (b ∷ bs) = first_of (unless (band_keeps before b) SamplingTable line ∷ bands_verdict (line + 1) b bs ∷ [])

-- the highest quantity of the last band
unfoldable pub last_highest : ℕ → List Band → ℕ
last_highest before [] = before
last_highest before (b ∷ bs) = last_highest b.highest bs

-- a table: a record holds sixteen bands, so a seventeenth is known by the count alone; one that does not end on 1,000,000 is refused at its
-- last line
unfoldable pub table_verdict : TableEntries → Verdict
table_verdict t =
    first_of
    (unless (ltb 0 t.count) SamplingTable 1
    ∷ bands_verdict 1 (band 0 0) t.bands
    ∷ unless (leb t.count 16) SamplingTable 17
    ∷ unless (eqb (last_highest 0 t.bands) 1000000) SamplingTable t.count
    ∷ [])
