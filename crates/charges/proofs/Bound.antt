-- No division of a choice costs less than its charges say, for any price of a blank. Assumes nothing.
use Prim.Native.Nat.{ℕ, ◌+◌, ◌*◌, ◌-◌, ◌≤◌, ◌<◌, min}
use native.Mathlib.Decide.{dec_lt}
use native.Mathlib.Nat.{mul-le-mul_right}
use native.Mathlib.Omega.{arith}
use mathlib.Core.List.{List, [], ◌∷◌}
use mathlib.Core.Path.{◌≡◌, ap, ◌∙◌}
use lib.IntN.{nat_abs}
use lib.ListN.{length}
use Rattle.lists.specs.All.{All}
use Rattle.book.specs.declared.Segment.{Segment}
use Rattle.book.specs.declared.Order.{Order}
use Rattle.book.specs.Rules.{price_on}
use Rattle.supply.specs.Allocation.{bought}
use Rattle.supply.specs.Meets.{most_of}
use Rattle.supply.specs.Sound.{SoundSegment}
use Rattle.choices.specs.Choice.{width, placed}
use Rattle.choices.proofs.Fill.{base, cost, Box}
use Rattle.choices.proofs.Placed.{price_on_lem}
use Rattle.charges.specs.Charge.{million, charge_at, charge, charges}

module _ (order : Order) (l : ℕ) (s : Segment) (sound : SoundSegment s) where
  -- what a quantity on the segment costs, by its charge
  charge_on : (r y : ℕ) → r ≡ s.start.0 + y → r ≤ million → charge_at l s r + l * r ≡ base s + s.unit.0 * y + l * million
  unfolding charge_at
  charge_on r y e h =
      let price : nat_abs (price_on s r) ≡ base s + s.unit.0 * y = ap (λ (n : ℕ). nat_abs (price_on s n)) e ∙ ap nat_abs (price_on_lem s y sound) in
      let rest : ℕ = million - r in
      let whole : rest + r ≡ million = omega arith in
      let product = ap (λ (n : ℕ). l * n) whole in
      omega arith

  pub charge_below : (x : ℕ) → x ≤ width s → s.start.0 + x ≤ most_of order
      → charge order l s + l * (s.start.0 + x) ≤ base s + s.unit.0 * x + l * million
  unfolding charge width
  charge_below x h k = go (dec_lt s.unit.0 l)
    where
      a : ℕ
      a = s.start.0

      -- the end, or the most that the order takes where that is less
      e : ℕ
      e = min s.end.0 (most_of order)

      go : Dec (s.unit.0 < l) → charge order l s + l * (a + x) ≤ base s + s.unit.0 * x + l * million
      go (yes m) =
          let more : ℕ = e - (a + x) in
          let at : e ≡ a + (x + more) = omega (arith, sound.order) in
          let product = ap (λ (n : ℕ). l * n) at in
          omega (arith, charge_on e (x + more) at (omega (arith, sound.end_high)), mul-le-mul_right more m)
      go (no m) =
          let high : l ≤ s.unit.0 = omega arith in
          omega (arith, charge_on a 0 (omega arith) (omega (arith, sound.order, sound.end_high)), mul-le-mul_right x high)

pub charges_below : (order : Order) (l : ℕ) (c : List Segment) (xs : List ℕ) → All SoundSegment c → Box c xs → bought (placed c xs) ≤ most_of order
    → charges order l c + l * bought (placed c xs) ≤ cost c xs + l * (million * length c)
unfolding bought
charges_below order l [] (x ∷ xs) sound b h = elim b [ ]
charges_below order l (s ∷ c) [] sound b h = elim b [ ]
charges_below order l [] [] sound b h = omega arith
charges_below order l (s ∷ c) (x ∷ xs) sound b h =
    omega (arith, charge_below order l s sound.0 x b.0 (omega arith), charges_below order l c xs sound.1 b.1 (omega arith))
