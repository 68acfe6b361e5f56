-- How large charges are, and the sums of a choice. Assumes nothing.
use Prim.Native.Nat.{ℕ, ◌+◌, ◌*◌, ◌-◌, ◌≤◌}
use native.Mathlib.Nat.{mul-le-mul}
use native.Mathlib.Omega.{arith}
use mathlib.Core.List.{List, [], ◌∷◌}
use mathlib.Core.Path.{◌≡◌}
use lib.IntN.{nat_abs}
use lib.ListN.{length}
use Rattle.lists.specs.All.{All}
use Rattle.book.specs.declared.Segment.{Segment}
use Rattle.book.specs.declared.Order.{Order}
use Rattle.book.specs.Rules.{price_on}
use Rattle.supply.specs.Sound.{price_limit, SoundSegment}
use Rattle.supply.proofs.Sound.{price_small}
use Rattle.choices.proofs.Sums.{starts_small, ends_small}
use Rattle.charges.specs.declared.Prices.{Prices}
use Rattle.charges.specs.declared.Sums.{Sums}
use Rattle.charges.specs.Charge.{million, highest, most_charge, charge_at, charge, charges}
use Rattle.charges.specs.Records.{Capped, ChargeableAt, SumsOf, UpTo, Small, sums_on, sums_with}

module _ (s : Segment) (r l : ℕ) (asked : ChargeableAt s r l) where
  pub price_size : nat_abs (price_on s r) ≤ price_limit
  price_size = price_small s r asked.sound asked.few

  pub rest_size : l * (million - r) ≤ highest * million
  rest_size = let short : million - r ≤ million = omega arith in mul-le-mul asked.capped short

pub charge_small : (order : Order) (l : ℕ) (s : Segment) → SoundSegment s → l ≤ highest → charge order l s ≤ most_charge
unfolding charge charge_at
charge_small order l s sound capped =
    let asked : ChargeableAt s s.start.0 l = record { sound = sound; few = omega (arith, sound.order, sound.end_high); capped = capped } in
    omega (arith, price_size s s.start.0 l asked, rest_size s s.start.0 l asked)

-- a segment of an accepted bid
pub one_up_to : (order : Order) (prices : Prices) (s : Segment) → SoundSegment s → Capped prices → UpTo 1 (sums_on order prices s)
one_up_to order prices s sound capped = record {
  low = omega (arith, sound.order, sound.end_high);
  high = omega (arith, sound.end_high);
  first = omega (arith, charge_small order prices.first.0 s sound capped.first);
  second = omega (arith, charge_small order prices.second.0 s sound capped.second);
}

-- over at most nine bidders nothing wraps
pub up_to_small : (k : ℕ) (x : Sums) → k ≤ 9 → UpTo k x → Small x
up_to_small k x h u = record {
  low = omega (arith, u.low);
  high = omega (arith, u.high);
  charges = record { first = omega (arith, u.first); second = omega (arith, u.second) };
}

pub up_to_with : (j k : ℕ) (x y : Sums) → UpTo j x → UpTo k y → UpTo (j + k + 1) (sums_with x y)
up_to_with j k x y a b = record {
  low = omega (arith, a.low, b.low);
  high = omega (arith, a.high, b.high);
  first = omega (arith, a.first, b.first);
  second = omega (arith, a.second, b.second);
}

-- A choice: its sums, and how large they are.

charges_small : (order : Order) (l : ℕ) (c : List Segment) → All SoundSegment c → l ≤ highest → charges order l c ≤ most_charge * length c
charges_small order l [] sound capped = omega arith
charges_small order l (s ∷ c) sound capped = omega (arith, charge_small order l s sound.0 capped, charges_small order l c sound.1 capped)

module _ (order : Order) (prices : Prices) where
  pub sums_next : (s : Segment) (c : List Segment) (x : Sums) → SumsOf order prices c x
      → SumsOf order prices (s ∷ c) (sums_with x (sums_on order prices s))
  sums_next s c x h =
      record { low = omega arith; high = omega arith; charges_of = record { first = omega arith; second = omega arith } }

  pub sums_up_to : (k : ℕ) (c : List Segment) (x : Sums) → All SoundSegment c → Capped prices → length c ≤ k → SumsOf order prices c x → UpTo k x
  sums_up_to k c x sound capped few h = record {
    low = omega (arith, starts_small c sound);
    high = omega (arith, ends_small c sound);
    first = omega (arith, charges_small order prices.first.0 c sound capped.first);
    second = omega (arith, charges_small order prices.second.0 c sound capped.second);
  }

pub up_to_more : (j k : ℕ) (x : Sums) → j ≤ k → UpTo j x → UpTo k x
up_to_more j k x h u = record { low = omega (arith, u.low); high = omega (arith, u.high); first = omega (arith, u.first); second = omega (arith, u.second) }

-- with a segment more, of which the end is counted
pub more_up_to : (k left : ℕ) (x y : Sums) → left ≡ k + 1 → UpTo k x → UpTo 1 y → y.high.0 ≤ million → UpTo left (sums_with x y)
more_up_to k left x y e u v high = omega arith
