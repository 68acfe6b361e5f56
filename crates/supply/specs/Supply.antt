-- A bid's supply function: document 000, section 3, document 01, section "Price and allocation", and document 02, change 2. It is all that
-- clearing and splits see of a bid's curve and carriage.
use Rattle.std.specs.Prelude.{ℕ, ◌+◌, Bool, false, cond, ◌&&◌, ◌||◌, Option, Some, None, List, [], ◌∷◌, map, ltb, ℤ, pos}
use Rattle.money.specs.declared.Cents.{Cents}
use Rattle.book.specs.declared.Segment.{Segment}
use Rattle.book.specs.Entries.{BidEntries}
use Rattle.book.specs.Rules.{within, price_on}

-- segment 0 of every bidder is quantity 0 at price 0
abbrev pub segment0 : Segment
segment0 = record { start = record { 0 = 0 }; end = record { 0 = 0 }; unit = record { 0 = 0 }; fixed = record { 0 = pos 0 } }

-- a segment with a carriage: r blanks cost (unit price + carriage) × r + fixed price
abbrev pub delivered : ℕ → Segment → Segment
delivered carriage s = record { start = s.start; end = s.end; unit = record { 0 = s.unit.0 + carriage }; fixed = s.fixed }

-- a bid's supply function: segment 0, and then the bid's segments, with its carriage
unfoldable pub supply_of : BidEntries → List Segment
supply_of b = segment0 ∷ map (delivered b.carriage) b.segments

-- the supply functions of bids, in book order
abbrev pub supplies_of : List BidEntries → List (List Segment)
supplies_of bids = map supply_of bids

-- a quantity is on a segment from its start to its end, both counted
unfoldable pub on : Segment → ℕ → Bool
on s r = within s.start.0 s.end.0 r

-- a bidder offers the quantities that are on one of its segments
unfoldable pub offers : List Segment → ℕ → Bool
offers [] r = false
offers (s ∷ ss) r = on s r || offers ss r

-- r blanks cost what they cost on the segment that r is on; where r is on none, which is never priced, 0 stands
unfoldable pub price_at : List Segment → ℕ → ℤ
price_at [] r = pos 0
price_at (s ∷ ss) r = cond (on s r) (price_on s r) (price_at ss r)

-- the price where the quantity is offered
unfoldable pub offer_of : List Segment → ℕ → Option Cents
offer_of ss r = cond (offers ss r) (Some (record { 0 = price_at ss r })) None

-- the number of the segment that r is on, the first of the list having the number n; where r is on none, which no award has, 0 stands
unfoldable pub number_from : ℕ → List Segment → ℕ → ℕ
number_from n [] r = 0
number_from n (s ∷ ss) r = cond (on s r) n (number_from (n + 1) ss r)

-- of a supply function, whose segments are numbered from 0
unfoldable pub segment_number : List Segment → ℕ → ℕ
segment_number ss r = number_from 0 ss r

-- a quantity stands strictly inside a segment when above its start and below its end
unfoldable pub inside : Segment → ℕ → Bool
inside s r = ltb s.start.0 r && ltb r s.end.0

-- a bidder stands strictly inside one of its segments
unfoldable pub stands_inside : List Segment → ℕ → Bool
stands_inside [] r = false
stands_inside (s ∷ ss) r = inside s r || stands_inside ss r
