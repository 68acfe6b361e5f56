-- What can be taken off a segment: its unit price, and no more than its price at the start has for each blank. Assumes nothing.
use Prim.Native.Nat.{ℕ, suc, ◌+◌, ◌*◌, ◌-◌, ◌/◌, ◌≤◌, min}
use native.Mathlib.Nat.{le-div_iff_mul-le}
use native.Mathlib.Omega.{arith}
use mathlib.Core.Bool.{Bool, true, false, cond, ◌&&◌, false≢true}
use mathlib.Core.Path.{◌≡◌, refl, sym, ap, ◌∙◌}
use borrow.Author.Tests.{leb-true, le-leb, ltb-false}
use lib.Dec.{leb, ltb}
use lib.IntN.{ℤ, pos, negsuc, nat_abs, ◌+ℤ◌, +ℤ_assoc, +ℤ_comm}
use lib.Signed.{le_z}
use Rattle.money.specs.Price.{price_of}
use Rattle.book.specs.declared.Segment.{Segment}
use Rattle.book.specs.Rules.{price_on, start_not_negative}
use Rattle.book.proofs.InRange.{in_range}
use Rattle.discount.specs.Discount.{segment_off}
use Rattle.discount.specs.Asked.{KeepsRules, MostOff}
use Rattle.discount.proofs.Least.{together, at_most_both}

-- a price from 0 on
not_below : (z : ℤ) → le_z (pos 0) z ≡ true → z ≡ pos (nat_abs z)
not_below (pos n) e = refl
not_below (negsuc n) e = absurd (false≢true e)

-- where so much more is from 0 on, it is itself from 0 on exactly if that is no less than what was added
still : (q : ℤ) (k n : ℕ) → q +ℤ pos k ≡ pos n → le_z (pos 0) q ≡ leb k n
still (pos m) k n e = let sum : m + k ≡ n = cc in le-leb 0 m (omega arith) ∙ sym (le-leb k n (omega arith))
still (negsuc m) k n e = together false (leb k n) (λ f. absurd (false≢true f)) (λ l. go (ltb k (suc m)) refl l e)
  where
    go : (t : Bool) → ltb k (suc m) ≡ t → leb k n ≡ true → cond t (negsuc (suc m - suc k)) (pos (k - suc m)) ≡ pos n → false ≡ true
    go true h l e = let z : ◌≡◌ {A = ℕ} 0 1 = cc in absurd (omega arith)
    go false h l e = let rest : k - suc m ≡ n = cc in absurd (omega (arith, ltb-false k (suc m) h, leb-true k n l))

module _ (s : Segment) (keeps : KeepsRules s) where
  abbrev at_start : ℕ
  at_start = nat_abs (price_on s s.start.0)

  -- so many cents a blank more are the price of before
  price_back : (cents : ℕ) → cents ≤ s.unit.0
      → price_on (segment_off cents s) s.start.0 +ℤ pos (cents * s.start.0) ≡ pos at_start
  unfolding price_of start_not_negative
  price_back cents h =
      let a : ℤ = pos ((s.unit.0 - cents) * s.start.0) in
      let b : ℤ = pos (cents * s.start.0) in
      let f : ℤ = s.fixed.0 in
      let unit : (s.unit.0 - cents) * s.start.0 + cents * s.start.0 ≡ s.unit.0 * s.start.0 = sum s.unit.0 cents s.start.0 h in
      +ℤ_assoc a f b ∙ ap (λ (z : ℤ). a +ℤ z) (+ℤ_comm f b) ∙ sym (+ℤ_assoc a b f)
      ∙ ap (λ (n : ℕ). pos n +ℤ f) unit
      ∙ not_below (price_on s s.start.0) keeps.not_negative
    where
      sum : (u c r : ℕ) → c ≤ u → (u - c) * r + c * r ≡ u * r
      sum u c r h = let whole : u ≡ (u - c) + c = omega arith in omega (arith, ap (λ (n : ℕ). n * r) whole)

  rule_8_kept : (cents : ℕ) → cents ≤ s.unit.0 → start_not_negative (segment_off cents s) ≡ leb cents (at_start / s.start.0)
  unfolding start_not_negative
  rule_8_kept cents h =
      let low = (in_range s keeps.ranged).start_low in
      let (to, from) = le-div_iff_mul-le {k = s.start.0} {x = cents} {y = at_start} low in
      still (price_on (segment_off cents s) s.start.0) (cents * s.start.0) at_start (price_back cents h)
      ∙ together (leb (cents * s.start.0) at_start) (leb cents (at_start / s.start.0))
      (λ e. le-leb cents (at_start / s.start.0) (from (leb-true (cents * s.start.0) at_start e)))
      (λ e. le-leb (cents * s.start.0) at_start (to (leb-true cents (at_start / s.start.0) e)))

  pub most_taken : MostOff s (min s.unit.0 (at_start / s.start.0))
  most_taken cents = go (leb cents s.unit.0) refl ∙ at_most_both cents s.unit.0 (at_start / s.start.0)
    where
      go : (t : Bool) → leb cents s.unit.0 ≡ t
          → leb cents s.unit.0 && start_not_negative (segment_off cents s) ≡ leb cents s.unit.0 && leb cents (at_start / s.start.0)
      go true e = ap (λ (b : Bool). leb cents s.unit.0 && b) (rule_8_kept cents (leb-true cents s.unit.0 e))
      go false e = rw e
