-- The price is that of the segment, and the sum does not wrap, by the limits of a sound segment.
use lib.IntN.{nat_abs}
use mathlib.Core.Path.{ap₂}
use Rattle.std.proofs.Common.{ℕ, ◌+◌, ◌*◌, ap, ◌∙◌}
use Rattle.supply.proofs.Sound.{price_fits}
use Rattle.charges.specs.Charge.{charge_at}
use Rattle.charges.proofs.charge_at.Goals as goal

pub price-requires : goal.price-requires
price-requires c = price_fits c.args.s c.args.quantity.0 c.requires.sound c.requires.few

pub returns : goal.returns
unfolding charge_at
returns c =
    let rest = c.at_price-rest.ensures ∙ ap (λ (n : ℕ). c.args.price.0 * n) c.sub.ensures in
    ap₂ ◌+◌ (c.magnitude-cents.ensures ∙ ap nat_abs c.price.ensures) rest
