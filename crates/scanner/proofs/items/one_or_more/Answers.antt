-- The loop keeps that what is parsed from the reader's place on belongs to the same items; each of them takes a byte. Assumes nothing.
use Rattle.std.proofs.Common.{arith, refl, sym, ap, length, Ok, Err}
use Rattle.std.proofs.lemmas.Result.{err_from_is_err_and}
use Rattle.scanner.specs.Items.{first_breaks_off, first_then, none, breaks_off, one_more}
use Rattle.scanner.proofs.Calls.{call}
use Rattle.scanner.proofs.items.one_or_more.Goals as goal

pub returns-in_err-kept : goal.returns-in_err-kept
returns-in_err-kept g c =
    let p = err_from_is_err_and c.from_residual.result c.from_residual.ensures.1 in
    rw (p.1, p.2) (first_breaks_off (call g.F.Fn c.args.item c.args.head (Err c.in_err-kept.field-0.0) c.in_err-kept.ensures))

pub loop-item-init : goal.loop-item-init
loop-item-init g c =
    let a = c.args in
    let one = call g.F.Fn a.item a.head (Ok c.in_ok-kept.kept) c.in_ok-kept.ensures in
    let on = c.requires.goes_on a.head a.reader.now c.in_ok-kept.kept c.item.new.arg2 c.requires.may one in
    record { may = on.may; goes_on = λ result next f. first_then one f }

pub item-requires-in-loop-item : goal.item-requires-in-loop-item
item-requires-in-loop-item g c = c.loop-item.invariant.may _ refl

pub returns-in_err-kept-2 : goal.returns-in_err-kept-2
returns-in_err-kept-2 g c =
    let l = c.loop-item in
    let p = err_from_is_err_and c.from_residual-in_err-kept-2.result c.from_residual-in_err-kept-2.ensures.1 in
    let one = call g.F.Fn c.args.item l.kept (Err c.in_err-kept-2.field-0.0) c.in_err-kept-2.ensures in
    rw (p.1, p.2) (l.invariant.goes_on _ _ (breaks_off (sym c.loop-item-test.ensures) one))

pub loop-item-smaller : goal.loop-item-smaller
loop-item-smaller g c =
    let l = c.loop-item in
    let next = c.item-in-loop-item.new.arg2 in
    let one = call g.F.Fn c.args.item l.kept (Ok c.in_ok-kept-2.kept) c.in_ok-kept-2.ensures in
    let on = c.requires.goes_on l.kept l.reader c.in_ok-kept-2.kept next l.invariant.may one in
    omega (arith, on.moves, next.inside, ap length on.same_text)

pub loop-item-preserved : goal.loop-item-preserved
loop-item-preserved g c =
    let l = c.loop-item in
    let one = call g.F.Fn c.args.item l.kept (Ok c.in_ok-kept-2.kept) c.in_ok-kept-2.ensures in
    let on = c.requires.goes_on l.kept l.reader c.in_ok-kept-2.kept c.item-in-loop-item.new.arg2 l.invariant.may one in
    record { may = on.may; goes_on = λ result next f. l.invariant.goes_on result next (one_more (sym c.loop-item-test.ensures) one f) }

pub returns : goal.returns
returns g c = c.loop-item.invariant.goes_on _ _ (none (sym c.loop-item-test.ensures))
