-- A turn takes one class more, as it stands in the table by then: it has whatever it had at the start.
use Rattle.std.proofs.Common.{◌+◌}
use Rattle.completions.proofs.Extending.{classes_next}
use Rattle.completions.proofs.Table.with_segment.Goals as goal

pub with_class-requires : goal.with_class-requires
with_class-requires c =
    record { segment = c.requires; up_to = λ left e. c.loop-i.self.graded.up_to (c.args.turn.at + 1) left c.loop-i.i e c.loop-i-test.true }

pub loop-i-preserved : goal.loop-i-preserved
loop-i-preserved c = classes_next _ _ _ c.loop-i.i c.loop-i.invariant c.with_class.ensures
