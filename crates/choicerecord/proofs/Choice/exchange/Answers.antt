-- The segment takes the place of the one dropped; each sum loses the one's term, which it had, and gains the other's.
use Rattle.std.proofs.Common.{arith, length, ◌≡◌}
use Rattle.lists.proofs.Slices.{length_held}
use Rattle.choicerecord.proofs.Choosing.{starts_high, ends_high, sound_other}
use Rattle.choicerecord.proofs.Choice.exchange.Goals as goal

pub add-starts-requires : goal.add-starts-requires
add-starts-requires c = omega (arith, starts_high c.args.self, c.requires.segment.order, c.requires.segment.end_high)

pub add-ends-requires : goal.add-ends-requires
add-ends-requires c = omega (arith, ends_high c.args.self, c.requires.segment.end_high)

pub invariant_of-result : goal.invariant_of-result
invariant_of-result c =
    let held : length c.args.self.segments ≡ 8 = search (length_held, c.well_formed) in
    record { sound = sound_other c.args.self c.args.s held c.requires.segment c.args.i c.requires.bidder _ _ (omega arith) (omega arith) }
