-- The segments passed rise up to the end before: what rule 7 says of all of them, it says of those left.
use Rattle.std.proofs.Common.{◌≡◌, length}
use Rattle.std.proofs.Math.Seq.{slice}
use Rattle.book.specs.Rules.{segments_rise}
use Rattle.segmentrules.proofs.order.segments_rise.Given as goal

abbrev pub invariant-loop-s : goal.invariant-loop-s
invariant-loop-s l = segments_rise 0 l.segments ≡ segments_rise l.before.0 (slice l.s-index (length l.segments) l.segments)
