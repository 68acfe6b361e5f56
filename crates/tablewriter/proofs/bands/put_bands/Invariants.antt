use Rattle.std.proofs.Common.{◌*◌, ◌≤◌, length, take}
use Rattle.lists.specs.Joined.{joined}
use Rattle.printer.specs.Puts.{Puts}
use Rattle.tabletext.specs.TableText.{band_text}
use Rattle.tablewriter.proofs.bands.put_bands.Given as goal

abbrev pub invariant-loop-band : goal.invariant-loop-band
invariant-loop-band l = record {
  few : length l.band-items ≤ 16;
  place : l.out.at ≤ 4000 * l.band-index;
  puts : Puts l.initial.out (joined band_text (take l.band-index l.band-items)) l.out;
}
