-- A segment chosen from each supply function, in book order, and an extra of its width: a way to complete the choice so far.
use Rattle.std.specs.Prelude.{ℕ, ◌≤◌}
use mathlib.Core.List.{List, [], ◌∷◌, Memᴰ as In}
use Rattle.book.specs.declared.Segment.{Segment}
use Rattle.choices.specs.Choice.{width}

abbrev pub Chosen : List (List Segment) → List Segment → List ℕ → Type 0
Chosen [] [] [] = Unit {0}
Chosen (ss ∷ supplies) (s ∷ c) (x ∷ xs) = In s ss × (x ≤ width s) × Chosen supplies c xs
Chosen [] [] (x ∷ xs) = ⊥
Chosen [] (s ∷ c) xs = ⊥
Chosen (ss ∷ supplies) [] xs = ⊥
Chosen (ss ∷ supplies) (s ∷ c) [] = ⊥
