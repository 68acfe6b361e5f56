-- The printed table of document 01, section "The sheet", and the sample of a quantity by any table.
use Rattle.std.specs.Prelude.{ℕ, cond, ◌&&◌, List, [], ◌∷◌, leb, ltb}
use Rattle.sampling.specs.declared.Band.{Band}
use Rattle.sampling.specs.Entries.{TableEntries}

abbrev pub band : ℕ → ℕ → Band
band highest sample = record { highest = highest; sample = sample }

-- highest quantity, sample
unfoldable pub printed_bands : List Band
printed_bands =
    band 1 1
    ∷ band 8 2
    ∷ band 15 3
    ∷ band 25 5
    ∷ band 50 8
    ∷ band 90 13
    ∷ band 150 20
    ∷ band 280 32
    ∷ band 500 50
    ∷ band 1200 80
    ∷ band 3200 125
    ∷ band 10000 200
    ∷ band 35000 315
    ∷ band 150000 500
    ∷ band 500000 800
    ∷ band 1000000 1250
    ∷ []

abbrev pub printed_table : TableEntries
printed_table = record { count = 16; bands = printed_bands }

-- A quantity lies in a band if it is above the highest quantity of the band before, and at most that of the band.
unfoldable pub sample_above : ℕ → List Band → ℕ → ℕ
sample_above before [] q = 0
sample_above before (b ∷ bs) q = cond (ltb before q && leb q b.highest) b.sample (sample_above b.highest bs q)

-- The sample of the band in which a quantity lies, the first band being that of 1 and above; 0 where it lies in none.
unfoldable pub sample_of : TableEntries → ℕ → ℕ
sample_of table q = sample_above 0 table.bands q
