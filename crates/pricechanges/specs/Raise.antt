-- Raised prices: document 02, change 7. Any unit prices and fixed prices of any segments of any bidders are raised, and none is lowered.
use Rattle.std.specs.Prelude.{◌≤◌, ◌≡◌, ◌≤ℤ◌}
use Rattle.lists.specs.Pairwise.{Pairwise}
use Rattle.book.specs.declared.Segment.{Segment}
use Rattle.book.specs.Entries.{BidEntries, BookEntries}
use Rattle.pricechanges.specs.Changed.{BidChanged, BookChanged}

-- of a segment each of the two prices is as it was, or raised
pub record RaisedSegment (s s' : Segment) : Type 0 where
  pub start : s'.start ≡ s.start
  pub end : s'.end ≡ s.end
  pub unit : s.unit.0 ≤ s'.unit.0
  pub fixed : s.fixed.0 ≤ℤ s'.fixed.0

abbrev pub RaisedBid : BidEntries → BidEntries → Type 0
RaisedBid = BidChanged (Pairwise RaisedSegment)

abbrev pub Raised : BookEntries → BookEntries → Type 0
Raised = BookChanged (Pairwise RaisedBid)
