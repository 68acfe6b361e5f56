-- The curves of a book alone, without carriage: what its supply functions were before document 02, change 2.
use Rattle.std.specs.Prelude.{List, ◌∷◌, map, ◌≡◌}
use Rattle.book.specs.declared.Segment.{Segment}
use Rattle.book.specs.Entries.{BidEntries}
use Rattle.supply.specs.Supply.{segment0}

-- segment 0, and then the bid's segments as they stand
abbrev pub curve_of : BidEntries → List Segment
curve_of b = segment0 ∷ b.segments

abbrev pub curves_of : List BidEntries → List (List Segment)
curves_of bids = map curve_of bids

-- a stored bid: its carriage is 0
abbrev pub NoCarriage : BidEntries → Type 0
NoCarriage b = b.carriage ≡ 0
