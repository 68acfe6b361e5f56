-- What is known of each segment of an accepted bid's supply function. The search and its bounds ask for this of a segment, and for no more.
use Rattle.std.specs.Prelude.{ℕ, ◌+◌, ◌*◌, ◌^◌, ◌≤◌, ◌<◌, true, ◌≡◌, pos, nat_abs}
use Rattle.std.specs.Int.Signed.{le_z}
use Rattle.book.specs.declared.Segment.{Segment}
use Rattle.book.specs.Rules.{price_on}

-- the most that a bid can sell
abbrev pub most_blanks : ℕ
most_blanks = 1000000

-- What a unit price and a fixed price stay below, so that no sum over eight bidders wraps. They are wider than an accepted book needs, so
-- that what is added to a unit price, or multiplies a price, does not change the search.
abbrev pub unit_limit : ℕ
unit_limit = 2 ^ 32

abbrev pub fixed_limit : ℕ
fixed_limit = 2 ^ 51

-- and so a price
abbrev pub price_limit : ℕ
price_limit = unit_limit * most_blanks + fixed_limit

pub record SoundSegment (s : Segment) : Type 0 where
  pub order : s.start.0 ≤ s.end.0
  pub end_high : s.end.0 ≤ most_blanks
  pub unit_high : s.unit.0 < unit_limit
  pub fixed_size : nat_abs s.fixed.0 < fixed_limit
  pub not_negative : le_z (pos 0) (price_on s s.start.0) ≡ true
