-- The class at its index is joined with the one more, and the others stand.
use Rattle.std.proofs.Common.{◌≡◌, ℕ, ◌+◌, ◌*◌, ◌<◌, List, length, arith}
use Rattle.std.proofs.Math.ListN.{set}
use Rattle.charges.specs.declared.Sums.{Sums}
use Rattle.completions.specs.Classes.{class_at}
use Rattle.completions.specs.Steps.{joined, Put}
use Rattle.completions.proofs.Putting.{put_set}
use Rattle.completions.proofs.Classes.{added_graded, added}
use Rattle.completions.proofs.Table.add_class.Goals as goal

put : (table : List Sums) (at class : ℕ) (x : Sums) → length table ≡ 288 → at < 8 → class < 32
    → let k = 32 * at + class in Put table k (joined (class_at table k) x) (set table k (joined (class_at table k) x))
put table at class x held a b = put_set table (32 * at + class) (joined (class_at table (32 * at + class)) x) (omega arith)

pub invariant_of-self : goal.invariant_of-self
invariant_of-self c =
    let s = c.args.self.now in
    let t = c.args.turn in
    let put = put s.classes t.at c.class_of.result c.args.x (omega arith) t.held c.class_of.ensures in
    rw c.joined.ensures (record { graded = added_graded s.classes _ t.at c.class_of.result c.args.x s.graded c.requires t.held c.class_of.ensures put })

pub returns : goal.returns
returns c =
    let s = c.args.self.now in
    let t = c.args.turn in
    let put = put s.classes t.at c.class_of.result c.args.x (omega arith) t.held c.class_of.ensures in
    rw c.joined.ensures (added s.classes _ t.at c.class_of.result c.args.x s.graded c.requires t.held c.class_of.ensures put)
