-- By whether `-` is the next byte: a negative number from 1 on, or one without a sign. Assumes nothing.
use Rattle.std.proofs.Common.{refl, sym, Ok, Err}
use Rattle.forms.specs.Signed.{signed}
use Rattle.scanner.proofs.Scanned.{scans_stop}
use Rattle.numerals.proofs.Integers.{signed_minus}
use Rattle.numerals.proofs.Negatives.{minus_is}
use Rattle.numerals.proofs.signed.Goals as goal

pub returns-in_err-n : goal.returns-in_err-n
returns-in_err-n c =
    let stop = c.in_err-n.field-0.0 in
    scans_stop signed c.args.reader.now c.number.new.reader stop c.from_residual.result c.from_residual.ensures.1
    (signed_minus c.args.reader.now (sym c.if-negative.ensures) _ refl refl (Err stop) c.number.new.reader c.in_err-n.ensures.scans)

pub returns-then-negative : goal.returns-then-negative
returns-then-negative c =
    let n = c.in_ok-n.n in
    rw (minus_is n c.in_ok-n.ensures.value_bound)
    (signed_minus c.args.reader.now (sym c.if-negative.ensures) _ refl refl (Ok n) c.number.new.reader c.in_ok-n.ensures.scans)
