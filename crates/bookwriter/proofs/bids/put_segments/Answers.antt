-- A turn puts one segment more right after those before it (`puts_next`), so that after the last turn all are put.
use Rattle.std.proofs.Common.{◌≡◌, length, ap, arith}
use Rattle.lists.proofs.Slices.{length_held, take_most}
use Rattle.booktext.specs.BookText.{segment_text}
use Rattle.printer.proofs.Puts.{puts_none, puts_as, puts_next, puts_all}
use Rattle.bookwriter.proofs.bids.put_segments.Goals as goal

pub loop-segment-init : goal.loop-segment-init
loop-segment-init c =
    let six : length c.args.bid.segments ≡ 6 = search (length_held, c.well_formed) in
    let listed = ap length c.listed-segment-items.ensures in
    record { few = omega (arith, listed, take_most c.args.bid.count c.args.bid.segments); place = omega arith; puts = puts_none _ }

pub loop-segment-preserved : goal.loop-segment-preserved
loop-segment-preserved c =
    let at = c.loop-segment in record {
      few = at.invariant.few;
      place = omega (arith, c.put.ensures.upper_bound);
      puts = puts_next segment_text _ at.segment-index _ c.loop-segment-test.true at.invariant.puts (puts_as c.segment_line.ensures c.put.ensures.puts);
    }

pub returns-clause-puts : goal.returns-clause-puts
returns-clause-puts c = puts_all segment_text _ _ _ c.loop-segment-test.false c.listed-segment-items.ensures c.loop-segment.invariant.puts
