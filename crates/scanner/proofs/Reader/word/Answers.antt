-- The loop keeps that the bytes passed are those of the word; where one differs, the word is broken off there. Assumes nothing.
use Rattle.std.proofs.Common.{refl, sym}
use Rattle.scanner.proofs.Words.{along_start, along_stop, along_next, along_done}
use Rattle.scanner.proofs.Reader.word.Goals as goal

pub returns-then-not-begins : goal.returns-then-not-begins
returns-then-not-begins c =
    let l = c.loop-b in
    along_stop c.args.w.now c.args.self.now l.b-index l.self l.invariant c.loop-b-test.true (sym c.if-not-begins.ensures)

pub loop-b-init : goal.loop-b-init
loop-b-init c = along_start c.args.w.now c.args.self.now

pub loop-b-preserved : goal.loop-b-preserved
loop-b-preserved c =
    let l = c.loop-b in
    along_next c.args.w.now c.args.self.now l.b-index l.self l.invariant c.loop-b-test.true _ refl refl (sym c.if-not-begins.ensures)

pub returns : goal.returns
returns c =
    let l = c.loop-b in
    along_done c.args.w.now c.args.self.now l.b-index l.self l.invariant c.loop-b-test.false
