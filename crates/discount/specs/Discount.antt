-- A discount, as document 02, change 8, has it: so many cents off the unit price of all segments of a named bidder, from 0 on.
use Rattle.std.specs.Prelude.{ℕ, ◌-◌, Bool, true, false, cond, ◌&&◌, List, map, eqb, leb}
use Rattle.lists.specs.Every.{every}
use Rattle.lists.specs.Those.{those}
use Rattle.refusal.specs.Checks.{when_accepted}
use Rattle.book.specs.declared.Segment.{Segment}
use Rattle.book.specs.Entries.{BidEntries, BookEntries}
use Rattle.book.specs.Rules.{book_verdict}

-- so many cents off the unit price of a segment, where it has as many
abbrev pub segment_off : ℕ → Segment → Segment
segment_off cents s = record { start = s.start; end = s.end; unit = record { 0 = s.unit.0 - cents }; fixed = s.fixed }

-- off that of all segments of a bid
abbrev pub bid_off : ℕ → BidEntries → BidEntries
bid_off cents b = record { bidder = b.bidder; carriage = b.carriage; count = b.count; segments = map (segment_off cents) b.segments }

-- a bid of this bidder
abbrev pub is_of : ℕ → BidEntries → Bool
is_of bidder b = eqb b.bidder bidder

-- off its bid, and every other bid as it is
abbrev pub bids_off : ℕ → ℕ → List BidEntries → List BidEntries
bids_off bidder cents bids = map (λ b. cond (is_of bidder b) (bid_off cents b) b) bids

unfoldable pub book_off : BookEntries → ℕ → ℕ → BookEntries
book_off b bidder cents = record { order = b.order; count = b.count; bids = bids_off bidder cents b.bids }

-- every unit price of a bid has so many cents
unfoldable pub has_cents : ℕ → BidEntries → Bool
has_cents cents b = every (λ s. leb cents s.unit.0) b.segments

-- so many cents can be taken off the bidder's unit prices, and leave an accepted book
unfoldable pub leaves_accepted : BookEntries → ℕ → ℕ → Bool
leaves_accepted b bidder cents = every (has_cents cents) (those (is_of bidder) b.bids) && when_accepted (book_verdict (book_off b bidder cents)) true false
