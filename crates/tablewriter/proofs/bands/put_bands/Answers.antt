-- A turn puts one band more right after those before it (`puts_next`), so that after the last turn all are put.
use Rattle.std.proofs.Common.{◌≡◌, length, ap, arith}
use Rattle.lists.proofs.Slices.{length_held, take_most}
use Rattle.printer.proofs.Puts.{puts_none, puts_as, puts_next, puts_all}
use Rattle.tabletext.specs.TableText.{band_text, table_text}
use Rattle.tablewriter.proofs.bands.put_bands.Goals as goal

pub loop-band-init : goal.loop-band-init
loop-band-init c =
    let sixteen : length c.args.table.bands ≡ 16 = search (length_held, c.well_formed) in
    let listed = ap length c.listed-band-items.ensures in
    record { few = omega (arith, listed, take_most c.args.table.count c.args.table.bands); place = omega arith; puts = puts_none _ }

pub loop-band-preserved : goal.loop-band-preserved
loop-band-preserved c =
    let at = c.loop-band in record {
      few = at.invariant.few;
      place = omega (arith, c.put.ensures.upper_bound);
      puts = puts_next band_text _ at.band-index _ c.loop-band-test.true at.invariant.puts (puts_as c.band_line.ensures c.put.ensures.puts);
    }

pub returns : goal.returns
unfolding table_text
returns c = puts_all band_text _ _ _ c.loop-band-test.false c.listed-band-items.ensures c.loop-band.invariant.puts
