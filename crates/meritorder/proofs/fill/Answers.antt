-- The bidders from the last to the one in turn have their quantities, and those before it share what is left.
use Rattle.std.proofs.Common.{arith, suc, ◌+◌, ◌-◌, ◌≤◌, ◌≡◌, ◌∙◌, ap}
use Rattle.supply.specs.Sound.{SoundSegment}
use Rattle.supply.proofs.Sound.{price_fits}
use Rattle.book.specs.Rules.{price_on}
use Rattle.choicerecord.specs.Records.{segment_at}
use Rattle.meritorder.proofs.Filling.{sound_this, within_end, total_fits, filling_next, filling_all}
use Rattle.meritorder.proofs.fill.Goals as goal
use Rattle.meritorder.proofs.fill.Goals.{After-extra-x, After-price-price}

-- In a turn: the bidder before, its segment, and with its extra no more than the segment's end.

next : (c : After-extra-x) → c.loop-i.i ≡ suc (c.loop-i.i - 1)
next c = omega (arith, c.loop-i-test.true)

sound : (c : After-extra-x) → SoundSegment (segment_at c.args.c (c.loop-i.i - 1))
sound c = sound_this c.loop-i.invariant (c.loop-i.i - 1) (next c)

at_end : (c : After-extra-x) → let s = segment_at c.args.c (c.loop-i.i - 1) in s.start.0 + c.extra-x.result.0 ≤ s.end.0
at_end c = within_end c.loop-i.invariant (c.loop-i.i - 1) (next c) c.extra-x.result.0 c.extra-x.ensures

price_there : (c : After-price-price) → let s = segment_at c.args.c (c.loop-i.i - 1) in c.price-price.result.0 ≡ price_on s (s.start.0 + c.extra-x.result.0)
price_there c = let s = segment_at c.args.c (c.loop-i.i - 1) in c.price-price.ensures ∙ ap (price_on s) c.add-quantity.ensures

pub add-quantity-requires : goal.add-quantity-requires
add-quantity-requires c =
    let x = (goal.at.add-quantity-requires c).After-extra-x in
    omega (arith, at_end x, (sound x).end_high)

pub price-price-requires : goal.price-price-requires
price-price-requires c =
    let x = (goal.at.price-price-requires c).After-extra-x in
    price_fits (segment_at c.args.c (c.loop-i.i - 1)) c.add-quantity.result.0 (sound x) (omega (arith, at_end x, (sound x).end_high))

pub add-cost-requires : goal.add-cost-requires
add-cost-requires c =
    let next-i = next (goal.at.add-cost-requires c).After-extra-x in
    total_fits c.loop-i.invariant (c.loop-i.i - 1) next-i c.extra-x.result.0 c.extra-x.ensures c.price-price.result.0 (price_there (goal.at.add-cost-requires c).After-price-price)

pub loop-i-preserved : goal.loop-i-preserved
loop-i-preserved c =
    let next-i = next (goal.at.loop-i-preserved c).After-extra-x in
    let x = c.extra-x in
    let is-price = price_there (goal.at.loop-i-preserved c).After-price-price in
    rw c.sub-left.ensures (filling_next c.loop-i.invariant (c.loop-i.i - 1) next-i x.result.0 x.ensures c.price-price.result.0 is-price c.add-quantity.result c.add-quantity.ensures c.add-cost.result.0 c.add-cost.ensures)

pub returns : goal.returns
returns c = filling_all c.loop-i.invariant (omega arith) c.args.order _ c.saturating_sub.ensures c.add-bought.ensures
