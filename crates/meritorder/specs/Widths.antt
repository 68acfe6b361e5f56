-- For the contract of `cheaper`, which is private: what segments can take over their starts, as a chain over them adds it up.
use Rattle.std.specs.Prelude.{ℕ, List, map, filter, leb, sum}
use Rattle.book.specs.declared.Segment.{Segment}
use Rattle.choices.specs.Choice.{width}

-- of those that are no dearer than a unit price
abbrev pub widths : ℕ → List Segment → ℕ
widths unit ss = sum (map (λ (s : Segment). width s) (filter (λ (s : Segment). leb s.unit.0 unit) ss))
