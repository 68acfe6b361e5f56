-- The loop keeps that the numbers before i were read (`Several`); where one of them breaks off, all do. Assumes nothing.
use Rattle.std.proofs.Common.{◌-◌, arith, length-set, ◌∙◌}
use Rattle.forms.specs.Spaced.{numbers, numbers_in}
use Rattle.scanner.proofs.Scanned.{scans_stop_ok}
use Rattle.numberline.proofs.Several.{stops_all, several_next, several_done, several_no_space, several_no_number}
use Rattle.numberline.proofs.spaced.Goals as goal

pub returns-in_err-values : goal.returns-in_err-values
returns-in_err-values g c =
    let n = g.row.N - 1 in
    let from = c.args.reader.now in
    let next = c.number.new.reader in
    let stop = c.in_err-values.field-0.0 in
    scans_stop_ok (numbers n) from next stop (numbers_in n) c.from_residual.result c.from_residual.ensures.1
    (stops_all from stop next n 0 (omega arith) c.in_err-values.ensures.scans)

pub returns-in_err-word : goal.returns-in_err-word
returns-in_err-word g c =
    let n = g.row.N - 1 in
    let l = c.loop-i in
    let from = c.args.reader.now in
    let next = c.word.new.self in
    let stop = c.in_err-word.field-0.0 in
    scans_stop_ok (numbers n) from next stop (numbers_in n) c.from_residual-in_err-word.result c.from_residual-in_err-word.ensures.1
    (several_no_space from l.values l.reader l.i l.invariant.several stop next g.row.N (omega arith) c.in_err-word.ensures)

pub returns-in_err-values-2 : goal.returns-in_err-values-2
returns-in_err-values-2 g c =
    let n = g.row.N - 1 in
    let l = c.loop-i in
    let from = c.args.reader.now in
    let next = c.number-in-loop-i.new.reader in
    let stop = c.in_err-values-2.field-0.0 in
    scans_stop_ok (numbers n) from next stop (numbers_in n) c.from_residual-in_err-values-2.result c.from_residual-in_err-values-2.ensures.1
    (several_no_number from l.values l.reader l.i l.invariant.several stop next g.row.N (omega arith) c.word.new.self c.in_ok-word.ensures
    c.in_err-values-2.ensures.scans)

pub loop-i-preserved : goal.loop-i-preserved
loop-i-preserved g c =
    let l = c.loop-i in
    let v = c.in_ok-values-2.field-0 in
    record {
      full = length-set l.values l.i v ∙ l.invariant.full;
      several = several_next c.args.reader.now l.values l.reader l.i l.invariant.several c.word.new.self c.in_ok-word.ensures
          v c.number-in-loop-i.new.reader c.in_ok-values-2.ensures.scans (omega arith);
    }

pub returns : goal.returns
returns g c =
    let l = c.loop-i in
    several_done c.args.reader.now l.values l.reader l.i l.invariant.several g.row.N (omega arith)
