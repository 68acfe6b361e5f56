-- Every class before the one in turn is closed; where all are, nothing better is there.
use Rattle.std.proofs.Common.{◌≡◌, ℕ, zero, suc, ◌+◌, ◌*◌, ◌-◌, ◌≤◌, ◌<◌, List, length, get_or, take, drop, refl, ap, arith, below_more, length-take, length-drop, get_or-drop, get_or-take}
use Rattle.charges.specs.declared.Sums.{Sums}
use Rattle.charges.proofs.Sizes.{up_to_more}
use Rattle.completions.specs.Classes.{no_class, class_at, class_count}
use Rattle.hopeless.proofs.Nothing.{nothing_better}
use Rattle.hopeless.proofs.Bounds.hopeless.Goals as goal

few : (left : ℕ) → class_count left ≤ 32
few zero = omega arith
few (suc left) = omega arith

-- the classes from a on, as many as n
class : (table : List Sums) (a n i : ℕ) → i < length (take n (drop a table)) → get_or (take n (drop a table)) i no_class ≡ class_at table (a + i)
class table a n i h = let within : i < n = omega (arith, simp length-take at h) in rw (get_or-take, get_or-drop)

pub closed-requires : goal.closed-requires
closed-requires c =
    let s = c.args.self.now in
    let at = c.args.at in
    let i = c.loop-class.class-index in
    let table = s.table.now in
    let turn = c.loop-class-test.true in
    let within : i < 32 = omega (arith, simp length-take at turn, few (s.bidders - at), c.class_count-count.ensures) in
    let all : at + (8 - at) ≡ 8 = omega (arith, s.few) in
    let graded = up_to_more (8 - at) 8 _ (omega arith) (table.graded.up_to at (8 - at) i all within) in
    record { chosen = c.requires.small; left = rw (class table.classes (32 * at) _ i turn) graded }

pub loop-class-preserved : goal.loop-class-preserved
loop-class-preserved c =
    let this = class c.args.self.now.table.now.classes (32 * c.args.at) _ c.loop-class.class-index c.loop-class-test.true in
    below_more _ _ c.loop-class.invariant (rw this at (c.if-not-closed.ensures refl))

pub returns : goal.returns
returns c e =
    let s = c.args.self.now in
    let at = c.args.at in
    let table = s.table.now in
    let held : length table.classes ≡ 288 = omega arith in
    let done = simp (length-take, length-drop) at c.loop-class-test.false in
    nothing_better s.order s.bidders s.prices table.classes at c.args.sums c.args.ties c.args.best c.requires.within
    (λ left i e h.
    let same : s.bidders - at ≡ left = omega arith in
    let count = ap class_count same in
    c.loop-class.invariant i (omega (arith, done, held, s.few, few left, count, c.class_count-count.ensures)))
