-- What a quantity is charged by a price of a blank. Whoever sells r blanks is charged their price, and the price of a blank for each of a
-- million that it does not sell. Over the bidders of a division these blanks are always as many, so that the division with the least
-- charges is the cheapest; and each bidder's charge can be bounded by itself.
use Rattle.std.specs.Prelude.{ℕ, ◌+◌, ◌*◌, ◌-◌, min, List, [], ◌∷◌, nat_abs}
use Rattle.book.specs.declared.Segment.{Segment}
use Rattle.book.specs.declared.Order.{Order}
use Rattle.book.specs.Rules.{price_on}
use Rattle.supply.specs.Meets.{most_of}
use Rattle.supply.specs.Sound.{most_blanks, unit_limit, price_limit}

-- a million, the most that a bid can sell
abbrev pub million : ℕ
million = most_blanks

-- r blanks on a segment, by the price l; a price of an accepted book is not negative
unfoldable pub charge_at : ℕ → Segment → ℕ → ℕ
charge_at l s r = nat_abs (price_on s r) + l * (million - r)

-- a segment is charged as its start or its end is, whichever is less; no division gives more than the order takes
unfoldable pub charge : Order → ℕ → Segment → ℕ
charge order l s = min (charge_at l s s.start.0) (charge_at l s (min s.end.0 (most_of order)))

-- the segments of a choice
abbrev pub charges : Order → ℕ → List Segment → ℕ
charges order l [] = 0
charges order l (s ∷ c) = charge order l s + charges order l c

-- the highest price of a blank: no unit price is above it, and no charge wraps
abbrev pub highest : ℕ
highest = unit_limit

-- and so the most that a segment of an accepted bid is charged
abbrev pub most_charge : ℕ
most_charge = price_limit + highest * million
