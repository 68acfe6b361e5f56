-- An allocation, as document 01 has the term: a quantity for each bidder, in book order.
use Rattle.std.specs.Prelude.{ℕ, ◌+◌, List, [], ◌∷◌, ℤ, pos, ◌+ℤ◌}
use Rattle.book.specs.declared.Segment.{Segment}
use Rattle.supply.specs.Supply.{price_at}

-- how many blanks it gives in all
unfoldable pub bought : List ℕ → ℕ
bought [] = 0
bought (r ∷ rs) = r + bought rs

-- its price is the sum of the bidders' prices by their supply functions; it is used only where there is a quantity for each
unfoldable pub cost_of : List (List Segment) → List ℕ → ℤ
cost_of [] rs = pos 0
cost_of (ss ∷ supplies) [] = pos 0
cost_of (ss ∷ supplies) (r ∷ rs) = price_at ss r +ℤ cost_of supplies rs
