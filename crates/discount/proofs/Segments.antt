-- The largest discount of a bid, along the loop through its segments. Assumes nothing.
use Prim.Native.Nat.{ℕ, ◌+◌, ◌≤◌, ◌<◌, min}
use native.Mathlib.Omega.{arith}
use mathlib.Core.Bool.{Bool, true, false, ◌&&◌}
use mathlib.Core.List.{List}
use mathlib.Core.Path.{◌≡◌, refl, ap, ◌∙◌}
use borrow.Author.Tests.{leb-true, le-leb}
use lib.Dec.{leb}
use lib.ListN.{length, get_or, drop}
use Rattle.lists.specs.Every.{every}
use Rattle.lists.proofs.Tests.{both_left, both_hold}
use Rattle.lists.proofs.Slices.{drop_next}
use Rattle.lists.proofs.Everywhere.{every_at}
use Rattle.book.specs.declared.Segment.{Segment}
use Rattle.book.specs.Rules.{segment_in_range, start_not_negative}
use Rattle.book.proofs.Records.{no_segment}
use Rattle.book.proofs.InRange.{in_range}
use Rattle.discount.specs.Discount.{segment_off}
use Rattle.discount.specs.Asked.{takes, MostOff}
use Rattle.discount.proofs.Least.{together, at_most_both}

-- the first three of a conjunction, moved round
moved : (a b c : Bool) → (a && b) && c ≡ b && (a && c)
moved true b c = refl
moved false true c = refl
moved false false c = refl

-- a turn: one segment fewer is left, and the smaller of two numbers kept
pub largest_next : (ss : List Segment) (i most off cents : ℕ) → i < length ss → MostOff (get_or ss i no_segment) off
    → every (takes cents) (drop i ss) && leb cents most ≡ every (takes cents) (drop (i + 1) ss) && leb cents (min off most)
unfolding every
largest_next ss i most off cents h is =
    let rest = every (takes cents) (drop (i + 1) ss) in
    ap (λ (l : List Segment). every (takes cents) l && leb cents most) (drop_next ss i no_segment h)
    ∙ ap (λ (b : Bool). (b && rest) && leb cents most) (is cents)
    ∙ moved (leb cents off) rest (leb cents most)
    ∙ ap (λ (b : Bool). rest && b) (at_most_both cents off most)

-- after the last turn: no unit price has more than 1,000,000 cents
pub largest_all : (ss : List Segment) (most cents : ℕ) → 1 ≤ length ss → every segment_in_range ss ≡ true → every (takes cents) ss && leb cents 1000000 ≡ leb cents most
    → every (takes cents) ss ≡ leb cents most
largest_all ss most cents some-segment ranges e =
    together (every (takes cents) ss) (every (takes cents) ss && leb cents 1000000)
    (λ t. both_hold (every (takes cents) ss) (leb cents 1000000) t (small t))
    (both_left (every (takes cents) ss) (leb cents 1000000))
    ∙ e
  where
    small : every (takes cents) ss ≡ true → leb cents 1000000 ≡ true
    small t =
        let first = get_or ss 0 no_segment in
        let unit = leb-true cents first.unit.0 (both_left (leb cents first.unit.0) (start_not_negative (segment_off cents first)) (every_at (takes cents) ss 0 no_segment some-segment t)) in
        let high = (in_range first (every_at segment_in_range ss 0 no_segment some-segment ranges)).unit_high in
        le-leb cents 1000000 (omega arith)
