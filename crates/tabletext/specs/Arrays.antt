-- What the machine guarantees of a record's array: sixteen places for bands.
use Rattle.std.specs.Prelude.{◌≡◌, length}
use Rattle.sampling.specs.declared.Table.{Table}

abbrev pub SixteenBands : Table → Type 0
SixteenBands t = length t.bands ≡ 16
