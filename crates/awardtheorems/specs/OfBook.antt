-- The divisions of a book, and its award in the words of demand 3 and of document 02, change 5.
use Rattle.std.specs.Prelude.{ℕ, List}
use Rattle.book.specs.Entries.{BookEntries}
use Rattle.supply.specs.Supply.{supplies_of}
use Rattle.divisions.specs.Division.{Division}
use Rattle.divisions.specs.Award.{Priced}
use Rattle.divisions.specs.IsAward.{IsAward}

-- every way to divide among the bids at least the demand and at most demand plus allowance
abbrev pub DivisionOf : BookEntries → List ℕ → Type 0
DivisionOf b rs = Division b.order (supplies_of b.bids) rs

-- the best of them: every other costs more; or costs the same and has more blanks; or as many, and gives less to the first bidder at whom the
-- two differ
abbrev pub IsAwardOf : BookEntries → Priced → Type 0
IsAwardOf b award = IsAward b.order (supplies_of b.bids) award
