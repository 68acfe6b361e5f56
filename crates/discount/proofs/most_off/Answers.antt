-- By rule 5 the price at the start fits and the start is not 0, and what the price has for each blank is what rule 8 leaves.
use lib.IntN.{nat_abs}
use Rattle.std.proofs.Common.{ℕ, ◌/◌, min, ap, sym, subst, ◌∙◌}
use Rattle.book.proofs.InRange.{in_range, price_fits}
use Rattle.discount.specs.Asked.{MostOff}
use Rattle.discount.proofs.Taken.{most_taken}
use Rattle.discount.proofs.most_off.Goals as goal

pub price-price-requires : goal.price-price-requires
price-price-requires c =
    let range = in_range c.args.s c.requires.ranged in
    price_fits c.args.s range _ range.start_high

pub nonzero_div-for_each : goal.nonzero_div-for_each
nonzero_div-for_each c = (in_range c.args.s c.requires.ranged).start_low

pub returns : goal.returns
returns c =
    let s = c.args.s in
    let for_each = ap (λ (n : ℕ). min s.unit.0 (n / s.start.0)) (c.magnitude.ensures ∙ ap nat_abs c.price-price.ensures) in
    subst (MostOff s) (sym (c.min.ensures ∙ for_each)) (most_taken s c.requires)
