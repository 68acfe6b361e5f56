-- A turn puts one part more right after those before it (`puts_next`), so that after the last turn all of the line is put.
use Rattle.std.proofs.Common.{arith}
use Rattle.printer.proofs.Puts.{puts_none, puts_next}
use Rattle.lines.specs.Line.{part_text}
use Rattle.lines.proofs.put.Goals as goal

pub loop-part-init : goal.loop-part-init
loop-part-init c = record { place = omega arith; puts = puts_none _ }

pub loop-part-preserved : goal.loop-part-preserved
loop-part-preserved c =
    let at = c.loop-part in record {
      place = omega (arith, c.put_part.ensures.upper_bound);
      puts = puts_next part_text c.args.line.now at.part-index _ (omega arith) at.invariant.puts c.put_part.ensures.puts;
    }
