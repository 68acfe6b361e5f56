-- What divisions of accepted bids cost: never below 0, and how much at most. Assumes nothing.
use Prim.Native.Nat.{ℕ, ◌+◌, ◌*◌, ◌-◌, ◌≤◌}
use native.Mathlib.Omega.{arith}
use mathlib.Core.Bool.{Bool, true, false, cond, false≢true}
use mathlib.Core.List.{List, [], ◌∷◌}
use mathlib.Core.Path.{◌≡◌, refl, sym, ap, ap₂, ◌∙◌, subst}
use lib.IntN.{ℤ, pos, nat_abs, ◌+ℤ◌}
use lib.ListN.{length}
use Rattle.lists.specs.All.{All}
use Rattle.money.proofs.Bounds.{nat_abs_plus}
use Rattle.book.specs.declared.Segment.{Segment}
use Rattle.book.specs.Entries.{BidEntries, BookEntries}
use Rattle.book.specs.Rules.{price_on}
use Rattle.book.specs.Accepted.{AcceptedBid}
use Rattle.supply.specs.Supply.{supply_of, supplies_of, on, offers, price_at}
use Rattle.supply.specs.Allocation.{cost_of}
use Rattle.supply.proofs.OneSegment.{on_low}
use Rattle.supply.specs.Sound.{SoundSegment}
use Rattle.supply.proofs.Accepted.{most_cents, sound_supply, supply_small}
use Rattle.divisions.specs.Division.{Allocation}
use Rattle.divisions.specs.Award.{Priced}
use Rattle.choices.proofs.Fill.{base}
use Rattle.choices.proofs.Placed.{price_on_lem}
use Rattle.awardtheorems.specs.OfBook.{IsAwardOf}

-- Prices from 0 on.

abbrev pub NotNegative : ℤ → Type 0
NotNegative z = z ≡ pos (nat_abs z)

from_zero : (n : ℕ) (z : ℤ) → z ≡ pos n → NotNegative z
from_zero n z e = e ∙ ap (λ (y : ℤ). pos (nat_abs y)) (sym e)

plus_from_zero : (a b : ℤ) → NotNegative a → NotNegative b → NotNegative (a +ℤ b)
plus_from_zero a b e f = from_zero (nat_abs a + nat_abs b) (a +ℤ b) (ap₂ ◌+ℤ◌ e f)

-- a price rises from that at the segment's start, which is not negative
price_from_zero : (s : Segment) (r : ℕ) → SoundSegment s → on s r ≡ true → NotNegative (price_on s r)
price_from_zero s r sound e =
    let x : ℕ = r - s.start.0 in
    let at : s.start.0 + x ≡ r = omega (arith, on_low s r e) in
    from_zero (base s + s.unit.0 * x) (price_on s r) (ap (price_on s) (sym at) ∙ price_on_lem s x sound)

offered_from_zero : (ss : List Segment) (r : ℕ) → All SoundSegment ss → offers ss r ≡ true → NotNegative (price_at ss r)
unfolding offers price_at
offered_from_zero [] r sound e = absurd (false≢true e)
offered_from_zero (s ∷ ss) r sound e = go (on s r) refl (λ f. offered_from_zero ss r sound.1 (rw f at e))
  where
    go : (t : Bool) → on s r ≡ t → (on s r ≡ false → NotNegative (price_at ss r)) → NotNegative (cond (on s r) (price_on s r) (price_at ss r))
    go true f later = rw f (price_from_zero s r sound.0 f)
    go false f later = rw f (later f)

-- Costs, from 0 to a bound.

pub record UpTo (most : ℕ) (z : ℤ) : Type 0 where
  pub not_negative : NotNegative z
  pub size : nat_abs z ≤ most

pub price_up_to : (b : BidEntries) (r : ℕ) → AcceptedBid b → offers (supply_of b) r ≡ true → UpTo most_cents (price_at (supply_of b) r)
price_up_to b r a o = record {
  not_negative = offered_from_zero (supply_of b) r (sound_supply b a).each o;
  size = (supply_small b a r o).price;
}

cost_up_to : (bids : List BidEntries) (rs : List ℕ) → All AcceptedBid bids → Allocation (supplies_of bids) rs
    → UpTo (most_cents * length bids) (cost_of (supplies_of bids) rs)
unfolding cost_of
cost_up_to [] [] a d = record { not_negative = refl; size = omega arith }
cost_up_to [] (r ∷ rs) a d = absurd d
cost_up_to (b ∷ bs) [] a d = absurd d
cost_up_to (b ∷ bs) (r ∷ rs) a d =
    let this = price_up_to b r a.0 d.0 in
    let rest = cost_up_to bs rs a.1 d.1 in
    let p : ℤ = price_at (supply_of b) r in
    let c : ℤ = cost_of (supplies_of bs) rs in
    record {
      not_negative = plus_from_zero p c this.not_negative rest.not_negative;
      size = omega (arith, nat_abs_plus p c, this.size, rest.size);
    }

-- the award of at most eight accepted bids
abbrev pub most_total : ℕ
most_total = 16080000000000

pub award_up_to : (b : BookEntries) → All AcceptedBid b.bids → length b.bids ≤ 8 → (award : Priced) → IsAwardOf b award → UpTo most_total award.cost
award_up_to b bids few award is =
    let c = cost_up_to b.bids award.quantities bids is.division.allocation in
    let up_to_lem : UpTo most_total (cost_of (supplies_of b.bids) award.quantities) = record { not_negative = c.not_negative; size = omega (arith, c.size) } in
    subst (UpTo most_total) (sym is.cost) up_to_lem
