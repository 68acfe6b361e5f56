-- The classes have what the first i classes of the bidders after add, with the segment.
use Rattle.completions.specs.Steps.{ExtendedBy}
use Rattle.completions.proofs.Table.with_segment.Given as goal

abbrev pub invariant-loop-i : goal.invariant-loop-i
invariant-loop-i l = ExtendedBy l.turn.order l.turn.at l.more l.i l.initial.self.classes l.self.classes
