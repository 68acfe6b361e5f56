-- For the contract of the function that fills a record: a record with a band more, stored where the array is not full, and counted.
use Rattle.std.specs.Prelude.{◌+◌}
use mathlib.Core.List.{List, foldl}
use Rattle.lists.specs.Padded.{added}
use Rattle.sampling.specs.declared.Band.{Band}
use Rattle.sampling.specs.declared.Table.{Table}

abbrev pub with_band : Table → Band → Table
with_band t b = record { count = t.count + 1; bands = added 16 t.bands t.count b }

-- bands more, one after the other
abbrev pub with_bands : Table → List Band → Table
with_bands = foldl with_band
