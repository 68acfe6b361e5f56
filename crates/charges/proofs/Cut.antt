-- A segment is charged up to its end, cut at what the order takes. Assumes nothing.
use Prim.Native.Nat.{ℕ, min}
use mathlib.Core.Path.{◌≡◌, ap, ◌∙◌}
use Rattle.book.specs.declared.Segment.{Segment}
use Rattle.book.specs.declared.Order.{Order}
use Rattle.supply.specs.Meets.{most_of}
use Rattle.charges.specs.Charge.{charge_at, charge}

pub charge_cut : (order : Order) (l : ℕ) (s : Segment) (end r : ℕ) → end ≡ min s.end.0 (most_of order)
    → r ≡ min (charge_at l s s.start.0) (charge_at l s end) → r ≡ charge order l s
unfolding charge
charge_cut order l s end r cut e = e ∙ ap (λ (n : ℕ). min (charge_at l s s.start.0) (charge_at l s n)) cut
