-- The bands passed are accepted: what is said of all of them is said of those left, from their line on.
use Rattle.std.proofs.Common.{◌≡◌, ◌+◌, length}
use Rattle.std.proofs.Math.Seq.{slice}
use Rattle.sampling.specs.Sampling.{band}
use Rattle.sampling.specs.Rules.{bands_verdict}
use Rattle.tablerules.proofs.check_bands.Given as goal

abbrev pub invariant-loop-i : goal.invariant-loop-i
invariant-loop-i l = bands_verdict 1 (band 0 0) l.bands ≡ bands_verdict (l.i + 1) l.before (slice l.i (length l.bands) l.bands)
