-- The discount `high` sells something and none below `low` does, and `left` tests are enough for the numbers between them.
use Rattle.std.proofs.Common.{ℕ, suc, ◌-◌, ◌≡◌, ◌≤◌, ◌<◌, Bool, arith, subst, sym}
use Rattle.lists.proofs.Halving.{Between, test_left, found, halve_down, halve_up}
use Rattle.toodear.proofs.Halved.{sells_on, smallest_off_lem}
use Rattle.toodear.proofs.discounts.smallest.Goals as goal

-- with one test fewer
one_fewer : (test : ℕ → Bool) (most left low high : ℕ) → Between test most left low high → low < high → Between test most (suc (left - 1)) low high
one_fewer test most left low high b h =
    let one : 1 ≤ left = test_left test most left low high b h in
    let same : left ≡ suc (left - 1) = omega arith in
    subst (λ (n : ℕ). Between test most n low high) same b

pub loop-low-preserved-then-sells : goal.loop-low-preserved-then-sells
loop-low-preserved-then-sells c w =
    let a = c.args in
    let at = c.loop-low in
    halve_down _ a.most.0 (sells_on a.book a.at a.most.0 w) (at.left - 1) at.low at.high
    (one_fewer _ a.most.0 at.left at.low at.high (at.invariant w) c.loop-low-test.true) c.loop-low-test.true (sym (c.if-sells.ensures w.bid.bidder w.bid.named))

pub loop-low-preserved : goal.loop-low-preserved
loop-low-preserved c w =
    let a = c.args in
    let at = c.loop-low in
    halve_up _ a.most.0 (sells_on a.book a.at a.most.0 w) (at.left - 1) at.low at.high
    (one_fewer _ a.most.0 at.left at.low at.high (at.invariant w) c.loop-low-test.true) c.loop-low-test.true (sym (c.if-sells.ensures w.bid.bidder w.bid.named))

pub returns : goal.returns
returns c =
    let a = c.args in
    let at = c.loop-low in
    let b = at.invariant c.requires in
    smallest_off_lem a.book a.at a.most.0 c.requires at.low (omega (arith, b.ordered, b.top))
    (found _ a.most.0 at.left at.low at.high b c.loop-low-test.false)
