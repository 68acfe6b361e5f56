-- The price rule with no fixed price is the product, which fits.
use lib.IntN.{nat_abs, pos}
use Rattle.std.proofs.Common.{arith, ℕ, ◌*◌, ◌≡◌, ap, ◌∙◌}
use Rattle.money.specs.Price.{price_of}
use Rattle.money.proofs.Bounds.{price_fits}
use Rattle.charges.specs.Charge.{highest}
use Rattle.charges.proofs.at_price.Goals as goal

product : (l blanks : ℕ) → nat_abs (price_of l blanks (pos 0)) ≡ l * blanks
unfolding price_of
product l blanks = omega arith

-- a fixed price of a cent would fit too
pub price-requires : goal.price-requires
price-requires c = price_fits _ _ _ highest 20000000 1 (omega (arith, c.requires.capped)) c.requires.few (omega arith) (omega arith)

pub returns : goal.returns
returns c = c.magnitude.ensures ∙ ap nat_abs c.price.ensures ∙ product c.args.price.0 c.args.blanks.0
