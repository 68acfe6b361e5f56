-- How many bidders of the book of document 01 stand strictly inside, of some quantities: what demand 3 bounds by one can be two.
-- Assumes nothing.
use mathlib.Core.List.{[], ◌∷◌}
use mathlib.Core.Path.{◌≡◌, refl}
use lib.IntN.{pos, neg_ℤ}
use Rattle.supply.specs.Supply.{supply_of, supplies_of, inside, stands_inside}
use Rattle.divisions.specs.IsAward.{inside_count}
use Rattle.workedcases.proofs.Books.{the_bids}

pub at_ends : inside_count (supplies_of (the_bids (neg_ℤ (pos 500)))) (100 ∷ 20 ∷ 0 ∷ []) ≡ 0
unfolding supply_of inside_count stands_inside inside
at_ends = refl

pub one_of_three : inside_count (supplies_of (the_bids (neg_ℤ (pos 500)))) (19 ∷ 80 ∷ 120 ∷ []) ≡ 1
unfolding supply_of inside_count stands_inside inside
one_of_three = refl

pub two_of_three : inside_count (supplies_of (the_bids (neg_ℤ (pos 500)))) (99 ∷ 21 ∷ 0 ∷ []) ≡ 2
unfolding supply_of inside_count stands_inside inside
two_of_three = refl
