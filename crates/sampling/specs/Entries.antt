-- What a table's record means: the bands within its count. Bands past the count are ignored.
use Rattle.std.specs.Prelude.{ℕ, List, ◌≡◌, take}
use Rattle.sampling.specs.declared.Band.{Band}
use Rattle.sampling.specs.declared.Table.{Table}

-- A sampling table: how many bands it has, and the bands; of a record, those that it holds.
pub record TableEntries : Type 0 where
  pub count : ℕ
  pub bands : List Band

abbrev pub table_entries : Table → TableEntries
table_entries t = record { count = t.count; bands = take t.count t.bands }

-- the same table: two records agree in the count and every band within it
abbrev pub SameTable : Table → Table → Type 0
SameTable a b = table_entries a ≡ table_entries b
