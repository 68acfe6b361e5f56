-- So many cents can be taken off each segment, and so much is left of a unit price, exactly if they can be taken off those not yet
-- passed, and are at most `most`.
use lib.Dec.{leb}
use Rattle.std.proofs.Common.{◌≡◌, ◌≤◌, ◌&&◌, ℕ, drop}
use Rattle.lists.specs.Every.{every}
use Rattle.discount.specs.Asked.{takes}
use Rattle.discount.proofs.largest.Given as goal

abbrev pub invariant-loop-s : goal.invariant-loop-s
invariant-loop-s l =
    (l.most.0 ≤ 1000000)
    × ((cents : ℕ) → every (takes cents) l.s-items && leb cents 1000000 ≡ every (takes cents) (drop l.s-index l.s-items) && leb cents l.most.0)
