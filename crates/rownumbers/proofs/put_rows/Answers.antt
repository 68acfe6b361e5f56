-- A turn puts the seven numbers of one row more right after those of the rows before it, so that after the last turn all are put.
use Rattle.std.proofs.Common.{◌≡◌, ◌+◌, ◌-◌, ◌*◌, ◌≤◌, List, length, refl, ap, ◌∙◌, arith}
use Rattle.std.proofs.Math.Seq.{take_all}
use Rattle.lists.specs.Joined.{joined}
use Rattle.lists.proofs.Slices.{take_most}
use Rattle.award.specs.declared.Row.{Row}
use Rattle.printer.specs.Written.{written}
use Rattle.printer.proofs.Written.{wrote_none, written_part, written_size}
use Rattle.rownumbers.specs.RowNumbers.{row_numbers, award_numbers}
use Rattle.rownumbers.proofs.Rows.{row_size, next_row}
use Rattle.rownumbers.proofs.put_rows.Goals as goal

pub loop-i-init : goal.loop-i-init
loop-i-init c = record { held = refl; put = (wrote_none c.args.rows.now 0).1 }

pub loop-i-preserved : goal.loop-i-preserved
loop-i-preserved c =
    let at = c.loop-i in
    let out = c.args.rows.now in
    let award = c.args.award in
    let rows = c.listed-row-items.result.now in
    let few : length rows ≤ award.count = omega (arith, ap length c.listed-row-items.ensures, take_most award.count award.rows) in
    let numbers = c.row_numbers.result in
    let seven : length numbers ≡ 7 = ap length c.row_numbers.ensures ∙ row_size _ in
    let n = 7 * at.i + 7 - 7 * at.i in
    let stored = written_part at.rows (7 * at.i) n numbers _ (omega arith) c.copy_from_slice.ensures.after in record {
      held = ap length stored ∙ written_size at.rows (7 * at.i) numbers (omega (arith, at.invariant.held, c.requires.fits)) ∙ at.invariant.held;
      put =
          next_row out rows at.i (length rows) _ at.rows _ numbers c.loop-i-test.true (omega arith) (omega (arith, c.requires.fits))
          at.invariant.put stored c.row_numbers.ensures;
    }

pub returns : goal.returns
unfolding award_numbers
returns c =
    let rows = c.listed-row-items.result.now in
    let all = take_all c.loop-i.i rows (omega arith) ∙ c.listed-row-items.ensures in
    c.loop-i.invariant.put ∙ ap (λ (rs : List Row). written c.args.rows.now 0 (joined row_numbers rs)) all
