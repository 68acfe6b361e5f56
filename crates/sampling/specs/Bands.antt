-- In which band of a table a quantity lies. Bands are counted from 0 here.
use Rattle.std.specs.Prelude.{ℕ, zero, suc, ◌≤◌, ◌<◌, length, get_or}
use Rattle.sampling.specs.declared.Band.{Band}
use Rattle.sampling.specs.Entries.{TableEntries}
use Rattle.sampling.specs.Sampling.{band}

abbrev pub band_at : TableEntries → ℕ → Band
band_at t k = get_or t.bands k (band 0 0)

-- the band before band k; before the first stands one of zeros, as in rule 12
abbrev pub band_before : TableEntries → ℕ → Band
band_before t zero = band 0 0
band_before t (suc k) = band_at t k

-- the highest quantity before band k: 0 before the first
abbrev pub highest_before : TableEntries → ℕ → ℕ
highest_before t k = (band_before t k).highest

-- the quantity q lies in band k
pub record LiesIn (t : TableEntries) (k q : ℕ) : Type 0 where
  pub there : k < length t.bands
  pub above : highest_before t k < q
  pub within : q ≤ (band_at t k).highest
