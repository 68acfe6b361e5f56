-- What a discount and raised prices make of a supply function: the same quantities, each for so much less, or for no less. Assumes nothing.
use Prim.Native.Nat.{ℕ, ◌+◌, ◌*◌}
use native.Mathlib.Nat.{mul-le-mul_right}
use native.Mathlib.Omega.{arith}
use mathlib.Core.Path.{◌≡◌, sym, ap, ◌∙◌}
use lib.IntN.{ℤ, pos, ◌+ℤ◌, +ℤ_assoc, +ℤ_comm}
use lib.Signed.{◌≤ℤ◌, ≤ℤ_refl}
use Rattle.lists.proofs.Pairwise.{pairwise_from}
use Rattle.money.specs.declared.Blanks.{Blanks}
use Rattle.money.specs.declared.Cents.{Cents}
use Rattle.money.specs.Price.{price_of}
use Rattle.book.specs.declared.Segment.{Segment}
use Rattle.book.specs.Entries.{BidEntries}
use Rattle.book.specs.Rules.{price_on}
use Rattle.supply.specs.Supply.{supply_of}
use Rattle.supply.proofs.Compared.{Comparison, Compared, ComparedSupply, supply_compared}
use Rattle.divisions.proofs.AtMost.{most_sum, pos_most}
use Rattle.pricechanges.specs.Discount.{CheaperSegment, CheaperBid}
use Rattle.pricechanges.specs.Raise.{RaisedSegment, RaisedBid}

-- how the two prices of r blanks compare: the first is so many cents a blank above the second; the first is at most the second

abbrev pub Above : ℕ → ℕ → ℤ → ℤ → Type 0
Above cents r p q = p ≡ q +ℤ pos (cents * r)

abbrev pub AtMost : ℕ → ℤ → ℤ → Type 0
AtMost r p q = p ≤ℤ q

-- ---- a discount

-- of a sum of three, the last two changed round
pub last_two : (a b c : ℤ) → (a +ℤ b) +ℤ c ≡ (a +ℤ c) +ℤ b
last_two a b c = +ℤ_assoc a b c ∙ ap (λ (z : ℤ). a +ℤ z) (+ℤ_comm b c) ∙ sym (+ℤ_assoc a c b)

above_comparison : (cents : ℕ) → Comparison (Above cents)
above_comparison cents = record {
  nothing = let none : 0 ≡ 0 + cents * 0 = omega arith in ap pos none;
  added = λ r n p q e. ap (λ (z : ℤ). z +ℤ pos n) e ∙ last_two q (pos (cents * r)) (pos n);
}

cheaper_price : (cents : ℕ) (s s' : Segment) → CheaperSegment cents s s' → (r : ℕ) → Above cents r (price_on s r) (price_on s' r)
unfolding price_of
cheaper_price cents s s' c r =
    let f : ℤ = s'.fixed.0 in
    let unit : s.unit.0 * r ≡ s'.unit.0 * r + cents * r = ap (λ (n : ℕ). n * r) (sym c.unit) ∙ omega arith in
    let fixed : s.fixed.0 ≡ f = ap (λ (x : Cents). x.0) (sym c.fixed) in
    ap (λ (n : ℕ). pos n +ℤ s.fixed.0) unit
    ∙ ap (λ (z : ℤ). pos (s'.unit.0 * r + cents * r) +ℤ z) fixed
    ∙ last_two (pos (s'.unit.0 * r)) (pos (cents * r)) f

cheaper_compared : (cents : ℕ) (s s' : Segment) → CheaperSegment cents s s' → Compared (Above cents) s s'
cheaper_compared cents s s' c = record {
  start = ap (λ (x : Blanks). x.0) c.start;
  end = ap (λ (x : Blanks). x.0) c.end;
  price = λ r o. cheaper_price cents s s' c r;
}

pub cheaper_supply : (cents : ℕ) (b b' : BidEntries) → CheaperBid cents b b' → ComparedSupply (Above cents) (supply_of b) (supply_of b')
cheaper_supply cents b b' c =
    supply_compared (Above cents) (above_comparison cents) b b' c.carriage
    (pairwise_from (CheaperSegment cents) _ (cheaper_compared cents) b.segments b'.segments c.segments)

-- ---- raised prices

most_comparison : Comparison AtMost
most_comparison = record { nothing = ≤ℤ_refl (pos 0); added = λ r n p q h. most_sum p q (pos n) (pos n) h (≤ℤ_refl (pos n)) }

raised_price : (s s' : Segment) → RaisedSegment s s' → (r : ℕ) → price_on s r ≤ℤ price_on s' r
unfolding price_of
raised_price s s' c r =
    most_sum (pos (s.unit.0 * r)) (pos (s'.unit.0 * r)) s.fixed.0 s'.fixed.0
    (pos_most (s.unit.0 * r) (s'.unit.0 * r) (mul-le-mul_right r c.unit)) c.fixed

raised_compared : (s s' : Segment) → RaisedSegment s s' → Compared AtMost s s'
raised_compared s s' c = record {
  start = ap (λ (x : Blanks). x.0) c.start;
  end = ap (λ (x : Blanks). x.0) c.end;
  price = λ r o. raised_price s s' c r;
}

pub raised_supply : (b b' : BidEntries) → RaisedBid b b' → ComparedSupply AtMost (supply_of b) (supply_of b')
raised_supply b b' c =
    supply_compared AtMost most_comparison b b' c.carriage
    (pairwise_from RaisedSegment _ raised_compared b.segments b'.segments c.segments)
