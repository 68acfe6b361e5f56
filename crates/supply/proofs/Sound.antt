-- What the search's theory asks of the supply functions that it goes through, and that a price on a sound segment fits. Assumes nothing.
use Prim.Native.Nat.{ℕ, ◌≤◌}
use native.Mathlib.Omega.{arith}
use mathlib.Core.Bool.{true}
use mathlib.Core.List.{List, Memᴰ as In}
use mathlib.Core.Path.{◌≡◌}
use lib.IntN.{nat_abs}
use Rattle.lists.specs.All.{All}
use Rattle.money.specs.Price.{PriceFits}
use Rattle.money.proofs.Bounds as bounds
use Rattle.book.specs.declared.Segment.{Segment}
use Rattle.book.specs.Rules.{price_on}
use Rattle.supply.specs.Supply.{on, price_at, inside, stands_inside}
use Rattle.supply.specs.Sound.{most_blanks, unit_limit, fixed_limit, price_limit, SoundSegment}

-- a quantity on one of its segments has the price there, and stands strictly inside there or nowhere
pub record SoundSupply (ss : List Segment) : Type 0 where
  pub each : All SoundSegment ss
  pub one_price : (s : Segment) (r : ℕ) → In s ss → on s r ≡ true → price_at ss r ≡ price_on s r
  pub one_inside : (s : Segment) (r : ℕ) → In s ss → on s r ≡ true → stands_inside ss r ≡ inside s r

module _ (s : Segment) (r : ℕ) (sound : SoundSegment s) (few : r ≤ most_blanks) where
  unit_high : s.unit.0 ≤ unit_limit
  unit_high = omega (arith, sound.unit_high)

  fixed_size : nat_abs s.fixed.0 ≤ fixed_limit
  fixed_size = omega (arith, sound.fixed_size)

  pub price_small : nat_abs (price_on s r) ≤ price_limit
  price_small = bounds.price_small _ r _ unit_limit most_blanks fixed_limit unit_high few fixed_size

  -- what the price rule asks
  pub price_fits : PriceFits s.unit.0 r s.fixed.0
  price_fits = bounds.price_fits _ r _ unit_limit most_blanks fixed_limit unit_high few fixed_size (omega arith)
