-- One order and its bidders against another: whatever the other can buy, this one can buy for no more.
use Rattle.std.specs.Prelude.{ℕ, List, ◌≤ℤ◌}
use Rattle.book.specs.declared.Segment.{Segment}
use Rattle.book.specs.declared.Order.{Order}
use Rattle.book.specs.Entries.{BookEntries}
use Rattle.supply.specs.Supply.{supplies_of}
use Rattle.supply.specs.Allocation.{cost_of}
use Rattle.divisions.specs.Division.{Division}

-- every division of order' among supplies' has one of order among supplies that costs no more
abbrev pub NoDearer : Order → List (List Segment) → Order → List (List Segment) → Type 0
NoDearer order supplies order' supplies' =
    (rs : List ℕ) → Division order' supplies' rs → (xs : List ℕ) × Division order supplies xs × (cost_of supplies xs ≤ℤ cost_of supplies' rs)

-- of two books
abbrev pub BookNoDearer : BookEntries → BookEntries → Type 0
BookNoDearer b b' = NoDearer b.order (supplies_of b.bids) b'.order (supplies_of b'.bids)
