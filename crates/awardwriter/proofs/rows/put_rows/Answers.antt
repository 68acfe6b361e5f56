-- The loop keeps that the rows passed are put one after the other (`puts_next`).
use Rattle.std.proofs.Common.{◌≡◌, List, length, ap, ◌∙◌, arith}
use Rattle.std.proofs.Math.Seq.{take_all}
use Rattle.lists.specs.Joined.{joined}
use Rattle.lists.proofs.Slices.{length_held, take_most}
use Rattle.award.specs.declared.Row.{Row}
use Rattle.printer.proofs.Puts.{puts_none, puts_as, puts_next}
use Rattle.awardwriter.specs.Layout.{layout_row}
use Rattle.awardwriter.proofs.Past.{past_row}
use Rattle.awardwriter.proofs.rows.put_rows.Goals as goal

pub loop-row-init : goal.loop-row-init
loop-row-init c = record { place = omega arith; puts = puts_none _ }

-- the record holds at most eight rows
pub put-requires-clause-place : goal.put-requires-clause-place
put-requires-clause-place c =
    let award = c.args.award in
    let eight : length award.rows ≡ 8 = search (length_held, c.well_formed) in
    let counted = ap length c.listed-row-items.ensures in
    omega (arith, counted, take_most award.count award.rows)

pub loop-row-preserved : goal.loop-row-preserved
loop-row-preserved c = record {
  place = omega arith;
  puts =
      puts_next (layout_row c.args.layout) c.listed-row-items.result.now c.loop-row.row-index past_row c.loop-row-test.true
      c.loop-row.invariant.puts (puts_as c.row_line.ensures c.put.ensures.puts);
}

pub returns : goal.returns
returns c =
    let rows = c.listed-row-items.result.now in
    let all = take_all c.loop-row.row-index rows (omega arith) ∙ c.listed-row-items.ensures in
    puts_as (ap (λ (rs : List Row). joined (layout_row c.args.layout) rs) all) c.loop-row.invariant.puts
