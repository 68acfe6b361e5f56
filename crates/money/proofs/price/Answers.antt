-- Product and price fit 64 bits by what is required, so the machine's sum is the price.
use Rattle.std.proofs.Common.{rules}
use Rattle.money.specs.Price.{price_of}
use Rattle.money.proofs.Machine.{sum_fits, sum_exact}
use Rattle.money.proofs.price.Goals as goal

pub overflow_add-sum : goal.overflow_add-sum
unfolding price_of
overflow_add-sum c = sum_fits _ c.args.fixed.0 c.requires.product (search rules) c.requires.price

pub returns : goal.returns
unfolding price_of
returns c = sum_exact _ c.args.fixed.0 c.requires.product (search rules) c.requires.price
