-- The segments before `s` rise up to `before`, so those from it on decide; one that does not rise ends the loop.
use Rattle.std.proofs.Common.{◌≤◌, ◌<◌, get_or, sym, ap, ◌∙◌, arith, rules, tests}
use Rattle.std.proofs.Math.Seq.{take_all}
use borrow.Author.Tests.{lt-ltb, le-ltb, le-leb, lt-leb}
use Rattle.book.specs.Rules.{segments_rise}
use Rattle.book.proofs.Records.{no_segment}
use Rattle.book.proofs.Rising.{rises_next, start_not_above, start_above_end, rises_done}
use Rattle.segmentrules.proofs.order.segments_rise.Goals as goal

pub loop-s-init : goal.loop-s-init
loop-s-init c = ap (segments_rise 0) (sym (take_all _ c.args.segments.now (omega arith)))

pub returns-then-le : goal.returns-then-le
returns-then-le c =
    let here = get_or c.args.segments.now c.loop-s.s-index no_segment in
    let h : here.start.0 ≤ c.loop-s.before.0 = search (rules, tests) in
    sym (c.loop-s.invariant ∙ start_not_above c.loop-s.before.0 c.args.segments.now c.loop-s.s-index _ c.loop-s-test.true (omega arith) (le-ltb _ _ h))

pub returns-then-lt : goal.returns-then-lt
returns-then-lt c =
    let here = get_or c.args.segments.now c.loop-s.s-index no_segment in
    let h : here.end.0 < here.start.0 = search (rules, tests) in
    sym (c.loop-s.invariant ∙ start_above_end c.loop-s.before.0 c.args.segments.now c.loop-s.s-index _ c.loop-s-test.true (omega arith) (lt-leb _ _ h))

pub loop-s-preserved : goal.loop-s-preserved
loop-s-preserved c =
    let here = get_or c.args.segments.now c.loop-s.s-index no_segment in
    let above : c.loop-s.before.0 < here.start.0 = search (rules, tests) in
    let order : here.start.0 ≤ here.end.0 = search (rules, tests) in
    c.loop-s.invariant
    ∙ rises_next c.loop-s.before.0 c.args.segments.now c.loop-s.s-index _ c.loop-s-test.true (omega arith) (lt-ltb _ _ above) (le-leb _ _ order)

pub returns : goal.returns
returns c = sym (c.loop-s.invariant ∙ rises_done c.loop-s.before.0 c.args.segments.now c.loop-s.s-index _ (omega arith) (omega arith))
