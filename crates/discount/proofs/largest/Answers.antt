-- So many cents can be taken off each segment passed, and so much is left of a unit price, exactly if they are at most `most`.
use lib.Dec.{leb}
use lib.Seq.{length-take-le}
use Rattle.std.proofs.Common.{ℕ, ◌+◌, ◌≡◌, ◌≤◌, Bool, ◌&&◌, List, length, take, drop, arith, ap, sym, ◌∙◌}
use Rattle.std.proofs.lemmas.List.{at_drop_all}
use Rattle.lists.specs.Every.{every}
use Rattle.lists.proofs.Slices.{length_held}
use Rattle.lists.proofs.Everywhere.{every_at}
use Rattle.money.specs.declared.CentsPerBlank.{CentsPerBlank}
use Rattle.book.specs.declared.Segment.{Segment}
use Rattle.book.specs.Rules.{segment_in_range, start_not_negative}
use Rattle.book.proofs.Records.{no_segment}
use Rattle.discount.specs.Asked.{takes}
use Rattle.discount.proofs.Least.{smaller}
use Rattle.discount.proofs.Segments.{largest_next, largest_all}
use Rattle.discount.proofs.largest.Goals as goal
use Rattle.discount.proofs.largest.Goals.{Start}

pub most_off-requires : goal.most_off-requires
most_off-requires c =
    let ss = c.listed-s-items.result.now in
    record {
      ranged = every_at segment_in_range ss _ no_segment c.loop-s-test.true (rw c.listed-s-items.ensures c.requires.ranges);
      not_negative = every_at start_not_negative ss _ no_segment c.loop-s-test.true (rw c.listed-s-items.ensures c.requires.not_negative);
    }

pub loop-s-preserved : goal.loop-s-preserved
loop-s-preserved c =
    let at = c.loop-s in
    let ss = c.listed-s-items.result.now in
    let least = ap (λ (most : CentsPerBlank). most.0) c.min-most.ensures ∙ smaller c.most_off.result at.most in (
      omega (arith, least),
      λ cents.
          at.invariant.1 cents
          ∙ largest_next ss at.s-index at.most.0 c.most_off.result.0 cents c.loop-s-test.true c.most_off.ensures
          ∙ ap (λ (n : ℕ). every (takes cents) (drop (at.s-index + 1) ss) && leb cents n) (sym least),
    )

pub returns-clause-largest : goal.returns-clause-largest
unfolding every
returns-clause-largest c cents =
    let at = c.loop-s in
    let bid = c.args.bid in
    let ss = c.listed-s-items.result.now in
    let six : length bid.segments ≡ 6 = search (length_held, c.well_formed) in
    let some-segment : 1 ≤ length (take bid.count bid.segments) = omega (arith, c.requires.count_low, length-take-le {A = Segment}) in
    let left = at_drop_all (λ (l : List Segment). every (takes cents) l && leb cents at.most.0) ss at.s-index c.loop-s-test.false in
    let all : every (takes cents) ss ≡ every (takes cents) (take bid.count bid.segments) = ap (every (takes cents)) c.listed-s-items.ensures in
    largest_all (take bid.count bid.segments) at.most.0 cents some-segment c.requires.ranges
    (ap (λ (t : Bool). t && leb cents 1000000) (sym all) ∙ at.invariant.1 cents ∙ left)
