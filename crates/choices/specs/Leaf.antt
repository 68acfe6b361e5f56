-- What the complete choices that fit give, and from what the search may start.
use Rattle.std.specs.Prelude.{true, ◌⊎◌, ◌≡◌}
use mathlib.Core.List.{List, [], ◌∷◌, Memᴰ as In}
use Rattle.std.proofs.Math.Option.{Option, some, none}
use Rattle.book.specs.declared.Segment.{Segment}
use Rattle.book.specs.declared.Order.{Order}
use Rattle.divisions.specs.Award.{Priced}
use Rattle.choices.specs.Choice.{fits, filled}

-- the quantities and cost of a complete choice that fits, from the choice so far and a segment of each supply function left
abbrev pub Leaf : Order → List (List Segment) → List Segment → Priced → Type 0
Leaf order [] c d = (fits order c ≡ true) × (d ≡ filled order c)
Leaf order (ss ∷ supplies) c d = (s : Segment) × In s ss × Leaf order supplies (s ∷ c) d

-- no division, or one that a complete choice that fits gives
abbrev pub Started : Order → List (List Segment) → Option Priced → Type 0
Started order supplies o = (o ≡ none) ⊎ ((d : Priced) × (o ≡ some d) × Leaf order supplies [] d)
