-- The search through all choices: for each bidder in turn its segments from the last to segment 0, and the best of what fits.
use Rattle.std.specs.Prelude.{cond, List, [], ◌∷◌}
use Rattle.std.proofs.Math.Option.{Option, none}
use Rattle.book.specs.declared.Segment.{Segment}
use Rattle.book.specs.declared.Order.{Order}
use Rattle.divisions.specs.Award.{Priced, pick}
use Rattle.choices.specs.Choice.{fits, filled}

-- f for each element, from the last to the first
unfoldable pub each : {A B : Type 0} → (A → B → B) → List A → B → B
each f [] o = o
each f (x ∷ xs) o = f x (each f xs o)

-- f for each complete choice: the choice so far, with a segment for each of the bidders left
unfoldable pub through : {B : Type 0} → (List Segment → B → B) → List (List Segment) → List Segment → B → B
through f [] c o = f c o
through f (ss ∷ supplies) c o = each (λ s. through f supplies (s ∷ c)) ss o

-- the better of the best so far and what a complete choice gives, if it fits
unfoldable pub leaf : Order → List Segment → Option Priced → Option Priced
leaf order c best = cond (fits order c) (pick best (filled order c)) best

-- the best so far, or a better one that a complete choice gives
unfoldable pub search : Order → List (List Segment) → List Segment → Option Priced → Option Priced
search order supplies c best = through (leaf order) supplies c best

-- from no choice and no division
abbrev pub searched : Order → List (List Segment) → Option Priced
searched order supplies = search order supplies [] none
