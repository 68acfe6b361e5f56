-- A choice of a segment for each bidder so far, the latest bidder first, and the quantities that the search gives it: each bidder gets
-- its start, and the rest goes by unit price, at equal unit prices by book order.
use Rattle.std.specs.Prelude.{ℕ, ◌+◌, ◌-◌, min, Bool, cond, ◌&&◌, List, [], ◌∷◌, reverse, leb, ℤ, pos, ◌+ℤ◌}
use Rattle.book.specs.declared.Segment.{Segment}
use Rattle.book.specs.declared.Order.{Order}
use Rattle.book.specs.Rules.{price_on}
use Rattle.supply.specs.Meets.{most_of}
use Rattle.divisions.specs.Award.{Priced}

abbrev pub starts : List Segment → ℕ
starts [] = 0
starts (s ∷ c) = s.start.0 + starts c

abbrev pub ends : List Segment → ℕ
ends [] = 0
ends (s ∷ c) = s.end.0 + ends c

-- the ends of a choice in book order, and then es
abbrev pub ends_then : List Segment → List ℕ → List ℕ
ends_then [] es = es
ends_then (s ∷ c) es = ends_then c (s.end.0 ∷ es)

abbrev pub ends_in_order : List Segment → List ℕ
ends_in_order c = ends_then c []

-- the starts add up to no more than the order takes, and the ends to at least the demand
unfoldable pub fits : Order → List Segment → Bool
fits order c = leb (starts c) (most_of order) && leb order.demand.0 (ends c)

-- how much a segment can take over its start
unfoldable pub width : Segment → ℕ
width s = s.end.0 - s.start.0

-- how much of it counts at a unit price: all where it is no dearer, else nothing
abbrev pub width_at : ℕ → Segment → ℕ
width_at unit s = cond (leb s.unit.0 unit) (width s) 0

-- what the segments that are no dearer can take
abbrev pub cheaper : ℕ → List Segment → ℕ
cheaper unit [] = 0
cheaper unit (s ∷ c) = width_at unit s + cheaper unit c

-- what the latest bidder gets over its start: what those before it who are no dearer cannot take, and no more than its width
abbrev pub extra : ℕ → Segment → List Segment → ℕ
extra left s c = min (width s) (left - cheaper s.unit.0 c)

-- what each bidder gets over its start, where there is so much left to give
abbrev pub extras : ℕ → List Segment → List ℕ
extras left [] = []
extras left (s ∷ c) = extra left s c ∷ extras (left - extra left s c) c

-- the quantities with these extras
abbrev pub placed : List Segment → List ℕ → List ℕ
placed [] xs = []
placed (s ∷ c) [] = []
placed (s ∷ c) (x ∷ xs) = (s.start.0 + x) ∷ placed c xs

-- and what they cost
abbrev pub cost_with : List Segment → List ℕ → ℤ
cost_with [] xs = pos 0
cost_with (s ∷ c) [] = pos 0
cost_with (s ∷ c) (x ∷ xs) = price_on s (s.start.0 + x) +ℤ cost_with c xs

-- what the demand leaves over the starts; where the starts reach or pass the demand, nothing
abbrev pub left_over : Order → List Segment → ℕ
left_over order c = order.demand.0 - starts c

-- that, given out
abbrev pub extras_of : Order → List Segment → List ℕ
extras_of order c = extras (left_over order c) c

-- the quantities of a choice, in book order, and their cost: as many blanks as the demand, or as the starts add up to where these pass it
unfoldable pub filled : Order → List Segment → Priced
filled order c = record {
  cost = cost_with c (extras_of order c);
  blanks = starts c + left_over order c;
  quantities = reverse (placed c (extras_of order c));
}
