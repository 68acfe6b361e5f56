-- Every complete choice, in a list.
use Rattle.std.specs.Prelude.{List, [], ◌∷◌}
use Rattle.lists.specs.Joined.{joined}
use Rattle.book.specs.declared.Segment.{Segment}

-- the choice so far, with each segment of the next bidder in turn, and so on
abbrev pub choices_from : List (List Segment) → List Segment → List (List Segment)
choices_from [] c = c ∷ []
choices_from (ss ∷ supplies) c = joined (λ (s : Segment). choices_from supplies (s ∷ c)) ss

-- from no choice
abbrev pub all_choices : List (List Segment) → List (List Segment)
all_choices supplies = choices_from supplies []
