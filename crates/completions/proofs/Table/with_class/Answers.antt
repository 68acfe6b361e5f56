-- By cases: an empty class has nothing, one that passes the order has nothing that it takes, and else the sums of the two are added.
use Rattle.std.proofs.Common.{◌≡◌, ◌+◌, ◌-◌, arith}
use Rattle.charges.proofs.Sizes.{up_to_small, more_up_to}
use Rattle.completions.proofs.Table.with_class.Goals as goal

pub add-next-requires : goal.add-next-requires
add-next-requires c =
    let left = 7 - c.args.turn.at in
    record {
      left = up_to_small left c.args.class (omega arith) (c.requires.up_to left (omega (arith, c.args.turn.held)));
      right = up_to_small 1 c.args.more (omega arith) c.requires.segment.one;
    }

pub add_class-requires : goal.add_class-requires
add_class-requires c = record {
  up_to = λ left e.
      let held = c.args.turn.held in
      let p = c.requires.segment in
      let one_more : left ≡ left - 1 + 1 = omega arith in
      let class = c.requires.up_to (left - 1) (omega arith) in
      rw c.add-next.ensures (more_up_to (left - 1) left c.args.class c.args.more one_more class p.one p.counted);
}
