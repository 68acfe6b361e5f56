-- The award (document 01, section "Price and allocation", and document 02, change 5): the best of all divisions. Nothing here
-- depends on how it is found.
use Rattle.std.specs.Prelude.{ℕ, Bool, true, false, cond, ◌&&◌, ◌||◌, List, [], ◌∷◌, map, eqb, ltb, ℤ}
use Rattle.std.proofs.Math.Option.{Option, some, none}
use Rattle.std.specs.Int.Signed.{lt_z, le_z}
use Rattle.book.specs.declared.Segment.{Segment}
use Rattle.book.specs.declared.Order.{Order}
use Rattle.book.specs.Entries.{BookEntries}
use Rattle.supply.specs.Supply.{supplies_of}
use Rattle.supply.specs.Allocation.{bought, cost_of}
use Rattle.divisions.specs.Listing.{divisions}

-- quantities, how many blanks they are, and what they cost in all
pub record Priced : Type 0 where
  pub cost : ℤ
  pub blanks : ℕ
  pub quantities : List ℕ

abbrev pub priced : List (List Segment) → List ℕ → Priced
priced supplies rs = record { cost = cost_of supplies rs; blanks = bought rs; quantities = rs }

-- xs gives more than ys to the first bidder at whom the two differ; both have a quantity for each bidder, so the second line is never met
unfoldable pub gives_more : List ℕ → List ℕ → Bool
gives_more [] ys = false
gives_more (x ∷ xs) [] = true
gives_more (x ∷ xs) (y ∷ ys) = ltb y x || (eqb x y && gives_more xs ys)

-- of two that cost the same: it has fewer blanks; or as many, and gives more to the first bidder at whom the two differ
unfoldable pub wins_tie : Priced → Priced → Bool
wins_tie a b = ltb a.blanks b.blanks || (eqb a.blanks b.blanks && gives_more a.quantities b.quantities)

-- it costs less; or it costs no more, and wins the tie
unfoldable pub better : Priced → Priced → Bool
better a b = lt_z a.cost b.cost || (le_z a.cost b.cost && wins_tie a b)

-- the better of the best so far and another
unfoldable pub pick : Option Priced → Priced → Option Priced
pick none d = some d
pick (some best) d = some (cond (better d best) d best)

-- the best of a list
unfoldable pub best_of : List Priced → Option Priced
best_of [] = none
best_of (d ∷ ds) = pick (best_of ds) d

-- the best of all divisions, or none where there is no division
unfoldable pub award_of : Order → List (List Segment) → Option Priced
award_of order supplies = best_of (map (priced supplies) (divisions order supplies))

-- the award of a book's bids, if they have a division
unfoldable pub award_of_book : BookEntries → Option Priced
award_of_book b = award_of b.order (supplies_of b.bids)
