-- Which numbers of blanks an order takes: document 02, change 5. Divisions and splits name `meets`; the search names `most_of` and the demand.
use Rattle.std.specs.Prelude.{ℕ, ◌+◌, Bool}
use Rattle.book.specs.declared.Order.{Order}
use Rattle.book.specs.Rules.{within}

-- the most blanks that it takes: demand plus allowance
abbrev pub most_of : Order → ℕ
most_of order = order.demand.0 + order.allowance.0

-- at least the demand, and at most demand plus allowance
unfoldable pub meets : Order → ℕ → Bool
meets order n = within order.demand.0 (most_of order) n
