-- Number and place tell a verdict: no two rules have the same number, none has 0, and each has at most two digits. Assumes nothing.
use Prim.Native.Nat.{ℕ, ◌≤◌, ◌<◌}
use native.Mathlib.Omega.{arith}
use mathlib.Core.Bool.{cond}
use mathlib.Core.Logic.{◌↔◌}
use mathlib.Core.Path.{◌≡◌, refl, sym, ap, ap₂, ◌∙◌}
use lib.Dec.{eqb}
use Rattle.std.specs.Prelude.{Ok, Err}
use Rattle.refusal.specs.declared.Rule.{Rule}
use Rattle.refusal.specs.declared.Rule.TheVariants.{TextLength, Shape, BidCount, SegmentCount, Range, BidderOrder, SegmentOrder, NegativePrice, NotCovered, OutputLength, SplitQuantity, SamplingTable, UnknownBidder}
use Rattle.refusal.specs.Verdict.{Verdict}
use Rattle.refusal.specs.Verdict.{Refused}
use Rattle.refusal.specs.Number.{rule_number, number_of, place_of}

-- the rule of a number
rule_of : ℕ → Rule
rule_of n =
    cond (eqb n 1) TextLength
    (cond (eqb n 2) Shape
    (cond (eqb n 3) BidCount
    (cond (eqb n 4) SegmentCount
    (cond (eqb n 5) Range
    (cond (eqb n 6) BidderOrder
    (cond (eqb n 7) SegmentOrder
    (cond (eqb n 8) NegativePrice
    (cond (eqb n 9) NotCovered
    (cond (eqb n 10) OutputLength
    (cond (eqb n 11) SplitQuantity
    (cond (eqb n 12) SamplingTable UnknownBidder)))))))))))

back : (rule : Rule) → rule_of (rule_number rule) ≡ rule
unfolding rule_of
back TextLength = refl
back Shape = refl
back BidCount = refl
back SegmentCount = refl
back Range = refl
back BidderOrder = refl
back SegmentOrder = refl
back NegativePrice = refl
back NotCovered = refl
back OutputLength = refl
back SplitQuantity = refl
back SamplingTable = refl
back UnknownBidder = refl

pub distinct_numbers : (a b : Rule) → rule_number a ≡ rule_number b → a ≡ b
distinct_numbers a b e = sym (back a) ∙ ap rule_of e ∙ back b

pub two_digits : (rule : Rule) → (1 ≤ rule_number rule) × (rule_number rule < 100)
two_digits TextLength = (omega arith, omega arith)
two_digits Shape = (omega arith, omega arith)
two_digits BidCount = (omega arith, omega arith)
two_digits SegmentCount = (omega arith, omega arith)
two_digits Range = (omega arith, omega arith)
two_digits BidderOrder = (omega arith, omega arith)
two_digits SegmentOrder = (omega arith, omega arith)
two_digits NegativePrice = (omega arith, omega arith)
two_digits NotCovered = (omega arith, omega arith)
two_digits OutputLength = (omega arith, omega arith)
two_digits SplitQuantity = (omega arith, omega arith)
two_digits SamplingTable = (omega arith, omega arith)
two_digits UnknownBidder = (omega arith, omega arith)

-- For every entry that answers a verdict: its contract says which verdict is given, and that is the same as to say number and place.
pub told_by_number : (v w : Verdict) → (v ≡ w) ↔ ((number_of v ≡ number_of w) × (place_of v ≡ place_of w))
told_by_number v w = (λ e. (ap number_of e, ap place_of e), λ h. go v w h.0 h.1)
  where
    go : (v w : Verdict) → number_of v ≡ number_of w → place_of v ≡ place_of w → v ≡ w
    go (Ok _) (Ok _) e f = refl
    go (Ok _) (Err refusal) e f = absurd (omega (arith, (two_digits refusal.rule).0))
    go (Err refusal) (Ok _) e f = absurd (omega (arith, (two_digits refusal.rule).0))
    go (Err refusal) (Err other_refusal) e f = ap₂ (λ (r : Rule) (n : ℕ). Refused r n) (distinct_numbers refusal.rule other_refusal.rule e) f
