-- A turn puts one space more right after those before it.
use Rattle.std.proofs.Common.{ℕ, arith}
use lib.ListN.{replicate-append-replicate}
use Rattle.printer.proofs.Puts.{puts_none, puts_as, puts_then}
use Rattle.columns.proofs.put_spaces.Goals as goal

pub loop-init : goal.loop-init
loop-init c = record { place = omega arith; puts = puts_none _ }

pub loop-preserved : goal.loop-preserved
loop-preserved c =
    let space = c.put.ensures.puts in record {
      place = omega (arith, space.put.0);
      puts = puts_as (replicate-append-replicate {A = ℕ} c.loop.counter 1 32) (puts_then c.loop.invariant.puts space);
    }
