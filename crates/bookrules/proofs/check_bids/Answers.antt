-- The bids before `i` are accepted, so those left decide, from the line `i + 2` on; one that is refused ends the loop.
use Rattle.std.proofs.Common.{◌≡◌, ◌+◌, sym, ◌∙◌, arith, rules}
use Rattle.book.proofs.Bids.{bids_next, bids_stop, bids_done}
use Rattle.bookrules.proofs.check_bids.Goals as goal

pub returns-in_err-check_bid : goal.returns-in_err-check_bid
returns-in_err-check_bid c =
    let refusal = c.in_err-check_bid.field-0.0 in
    let e = sym c.check_bid.ensures ∙ c.in_err-check_bid.was in
    let stop = sym (c.loop-i.invariant ∙ bids_stop (c.loop-i.i + 2) c.loop-i.before c.args.bids.now c.loop-i.i _ c.loop-i-test.true (omega arith) refusal.rule refusal.place e) in
    search rules

pub loop-i-preserved : goal.loop-i-preserved
loop-i-preserved c =
    let line : c.loop-i.i + 2 + 1 ≡ c.loop-i.i + 1 + 2 = omega arith in
    c.loop-i.invariant
    ∙ rw line at (bids_next (c.loop-i.i + 2) c.loop-i.before c.args.bids.now c.loop-i.i _ c.loop-i-test.true (omega arith) (sym c.check_bid.ensures ∙ c.in_ok-check_bid.was))

pub returns : goal.returns
returns c = sym (c.loop-i.invariant ∙ bids_done (c.loop-i.i + 2) c.loop-i.before c.args.bids.now c.loop-i.i _ (omega arith) (omega arith))
