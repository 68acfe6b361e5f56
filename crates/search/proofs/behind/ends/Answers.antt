-- The array has the ends of the segments passed, in their order.
use Rattle.std.proofs.Common.{refl, ◌<◌, length, length-set, arith}
use Rattle.lists.proofs.Latest.{latest_none}
use Rattle.search.proofs.Ends.{ends_next}
use Rattle.search.proofs.behind.ends.Goals as goal

pub loop-i-init : goal.loop-i-init
loop-i-init c = record { size = refl; passed = rw latest_none refl }

pub loop-i-preserved : goal.loop-i-preserved
loop-i-preserved c =
    let i = c.loop-i in
    let here : i.i < length i.all = omega (arith, c.args.c.sound.few, i.invariant.size) in
    record { size = rw length-set i.invariant.size; passed = ends_next c.args.c.segments i.i i.all here i.invariant.passed }
