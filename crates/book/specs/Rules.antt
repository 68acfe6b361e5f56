-- Rules 3 to 8 of document 01, section "What is turned down", with the carriage and the allowance of document 02, changes 2 and 5: the
-- first fault of a book, its rule and its line.
-- Lines are taken from the first, and in a line the rules by their numbers. The demand is line 1, the first bid line 2.
use Rattle.std.specs.Prelude.{ℕ, ◌+◌, Bool, true, ◌&&◌, List, [], ◌∷◌, leb, ltb, ℤ, pos, neg_ℤ}
use Rattle.std.specs.Int.Signed.{le_z}
use Rattle.lists.specs.Every.{every}
use Rattle.money.specs.Price.{price_of}
use Rattle.refusal.specs.Checks.{unless, first_of}
use Rattle.refusal.specs.declared.Rule.TheVariants.{BidCount, SegmentCount, Range, BidderOrder, SegmentOrder, NegativePrice}
use Rattle.refusal.specs.Verdict.{Verdict}
use Rattle.refusal.specs.Verdict.{Accepted}
use Rattle.book.specs.declared.Segment.{Segment}
use Rattle.book.specs.declared.Order.{Order}
use Rattle.book.specs.Entries.{BidEntries, BookEntries}

-- from low to high, both counted
abbrev pub within : ℕ → ℕ → ℕ → Bool
within low high n = leb low n && leb n high

abbrev pub within_z : ℤ → ℤ → ℤ → Bool
within_z low high z = le_z low z && le_z z high

-- rule 5, of a segment
unfoldable pub segment_in_range : Segment → Bool
segment_in_range s =
    within 1 1000000 s.start.0
    && within 1 1000000 s.end.0
    && within 0 1000000 s.unit.0
    && within_z (neg_ℤ (pos 1000000000000)) (pos 1000000000000) s.fixed.0

-- rule 5, of a bid
unfoldable pub bid_in_range : BidEntries → Bool
bid_in_range b = within 1 9999 b.bidder && within 0 10000 b.carriage && every segment_in_range b.segments

-- rule 7: each start is at most its end, and above the end before it; before the first segment stands 0
unfoldable pub segments_rise : ℕ → List Segment → Bool
segments_rise before [] = true
segments_rise before (s ∷ ss) = ltb before s.start.0 && leb s.start.0 s.end.0 && segments_rise s.end.0 ss

-- r blanks on a segment cost unit price × r + fixed price
abbrev pub price_on : Segment → ℕ → ℤ
price_on s r = price_of s.unit.0 r s.fixed.0

-- rule 8: the price at a segment's start is not negative, by the curve without carriage
unfoldable pub start_not_negative : Segment → Bool
start_not_negative s = le_z (pos 0) (price_on s s.start.0)

-- a bid on its line, after a bid of the bidder `before` (0 where it is the first)
unfoldable pub bid_verdict : ℕ → ℕ → BidEntries → Verdict
bid_verdict line before b =
    first_of
    (unless (within 1 6 b.count) SegmentCount line
    ∷ unless (bid_in_range b) Range line
    ∷ unless (ltb before b.bidder) BidderOrder line
    ∷ unless (segments_rise 0 b.segments) SegmentOrder line
    ∷ unless (every start_not_negative b.segments) NegativePrice line
    ∷ [])

-- the bids from a line on
unfoldable pub bids_verdict : ℕ → ℕ → List BidEntries → Verdict
bids_verdict line before [] = Accepted
bids_verdict line before (b ∷ bs) = first_of (bid_verdict line before b ∷ bids_verdict (line + 1) b.bidder bs ∷ [])

-- rule 5, of an order
unfoldable pub order_in_range : Order → Bool
order_in_range order = within 1 1000000 order.demand.0 && within 0 1000000 order.allowance.0

-- a book: a record holds eight bids, so a ninth is known by the count alone
unfoldable pub book_verdict : BookEntries → Verdict
book_verdict b =
    first_of
    (unless (order_in_range b.order) Range 1
    ∷ unless (ltb 0 b.count) BidCount 2
    ∷ bids_verdict 2 0 b.bids
    ∷ unless (leb b.count 8) BidCount 10
    ∷ [])
