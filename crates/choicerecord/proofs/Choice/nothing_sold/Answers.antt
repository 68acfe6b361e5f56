-- Each of the eight places holds segment 0, whose start and end are 0, as are both sums.
use Rattle.choicerecord.proofs.Choosing.{sound_nothing}
use Rattle.choicerecord.proofs.Choice.nothing_sold.Goals as goal

pub invariant_of-result : goal.invariant_of-result
invariant_of-result c = record { sound = rw c.segment_0.ensures (sound_nothing c.args.n c.requires) }
