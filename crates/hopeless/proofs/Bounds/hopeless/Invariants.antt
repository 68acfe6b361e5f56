-- What is passed of the classes has nothing better.
use Rattle.std.proofs.Common.{ℕ, ◌+◌, ◌*◌, ◌<◌}
use Rattle.completions.specs.Classes.{class_at}
use Rattle.hopeless.specs.Hopeless.{Closed}
use Rattle.hopeless.proofs.Bounds.hopeless.Given as goal

-- every class before the one in turn is closed
abbrev pub invariant-loop-class : goal.invariant-loop-class
invariant-loop-class l =
    (k : ℕ) → k < l.class-index
    → Closed l.self.order l.self.bidders l.self.prices l.sums (class_at l.self.table.now.classes (32 * l.at + k)) l.ties l.best
