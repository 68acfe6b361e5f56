-- For the contracts of this crate and of those that bound the search: sums of starts, ends and charges.
use Rattle.std.specs.Prelude.{ℕ, ◌+◌, ◌*◌, ◌^◌, ◌≤◌, List, ◌≡◌}
use Rattle.book.specs.declared.Segment.{Segment}
use Rattle.book.specs.declared.Order.{Order}
use Rattle.supply.specs.Sound.{SoundSegment}
use Rattle.choices.specs.Choice.{starts, ends}
use Rattle.charges.specs.declared.Prices.{Prices}
use Rattle.charges.specs.declared.Charges.{Charges}
use Rattle.charges.specs.declared.Sums.{Sums}
use Rattle.charges.specs.Charge.{million, highest, most_charge, charge, charges}

-- prices of a blank by which charges do not wrap
pub record Capped (prices : Prices) : Type 0 where
  pub first : prices.first.0 ≤ highest
  pub second : prices.second.0 ≤ highest

-- what `at_price` asks: a price of a blank as `Capped` has it, and blanks of at most twenty bidders
pub record Payable (l blanks : ℕ) : Type 0 where
  pub capped : l ≤ highest
  pub few : blanks ≤ 20000000

-- what `charge_at` asks
pub record ChargeableAt (s : Segment) (r l : ℕ) : Type 0 where
  pub sound : SoundSegment s
  pub few : r ≤ million
  pub capped : l ≤ highest

-- what `charge` asks
pub record Chargeable (s : Segment) (l : ℕ) : Type 0 where
  pub sound : SoundSegment s
  pub capped : l ≤ highest

-- what `charged` asks
pub record ChargeableBy (s : Segment) (prices : Prices) : Type 0 where
  pub sound : SoundSegment s
  pub capped : Capped prices

-- the sums of one segment
abbrev pub sums_on : Order → Prices → Segment → Sums
sums_on order prices s = record {
  low = s.start;
  high = s.end;
  charges = record { first = charge order prices.first.0 s; second = charge order prices.second.0 s };
}

-- two charges together
abbrev pub charges_with : Charges → Charges → Charges
charges_with x y = record { first = x.first + y.first; second = x.second + y.second }

-- two sums together
abbrev pub sums_with : Sums → Sums → Sums
sums_with x y = record {
  low = record { 0 = x.low.0 + y.low.0 };
  high = record { 0 = x.high.0 + y.high.0 };
  charges = charges_with x.charges y.charges;
}

-- charges that can be added without wrapping
pub record SmallCharges (x : Charges) : Type 0 where
  pub first : x.first ≤ 2 ^ 62
  pub second : x.second ≤ 2 ^ 62

-- what the sum of two charges asks
pub record Summable (x y : Charges) : Type 0 where
  pub left : SmallCharges x
  pub right : SmallCharges y

-- sums that can be added without wrapping
pub record Small (x : Sums) : Type 0 where
  pub low : x.low.0 ≤ 2 ^ 62
  pub high : x.high.0 ≤ 2 ^ 62
  pub charges : SmallCharges x.charges

-- what two sums together ask
pub record Addable (x y : Sums) : Type 0 where
  pub left : Small x
  pub right : Small y

-- the charges of a choice
pub record ChargesOf (order : Order) (prices : Prices) (c : List Segment) (x : Charges) : Type 0 where
  pub first : x.first ≡ charges order prices.first.0 c
  pub second : x.second ≡ charges order prices.second.0 c

-- the sums of a choice
pub record SumsOf (order : Order) (prices : Prices) (c : List Segment) (x : Sums) : Type 0 where
  pub low : x.low.0 ≡ starts c
  pub high : x.high.0 ≡ ends c
  pub charges_of : ChargesOf order prices c x.charges

-- sums over k bidders are no larger than this; one more is let be for an end that is not counted
pub record UpTo (k : ℕ) (x : Sums) : Type 0 where
  pub low : x.low.0 ≤ million * k
  pub high : x.high.0 ≤ million * k + 1
  pub first : x.charges.first ≤ most_charge * k
  pub second : x.charges.second ≤ most_charge * k
