-- What rule 5 tells of a segment, and that its prices, without carriage, then fit. Assumes nothing.
use Prim.Native.Nat.{ℕ, ◌≤◌}
use native.Mathlib.Omega.{arith}
use mathlib.Core.Bool.{true, ◌&&◌}
use mathlib.Core.Path.{◌≡◌}
use borrow.Author.Tests.{leb-true}
use lib.Dec.{leb}
use lib.IntN.{pos, neg_ℤ, nat_abs}
use lib.Signed.{le_z}
use Rattle.lists.proofs.Tests.{both_left, both_right}
use Rattle.money.specs.Price.{PriceFits}
use Rattle.money.proofs.Bounds as bounds
use Rattle.book.specs.declared.Segment.{Segment}
use Rattle.book.specs.Rules.{within, segment_in_range}

pub record InRange (s : Segment) : Type 0 where
  pub start_low : 1 ≤ s.start.0
  pub start_high : s.start.0 ≤ 1000000
  pub end_low : 1 ≤ s.end.0
  pub end_high : s.end.0 ≤ 1000000
  pub unit_high : s.unit.0 ≤ 1000000
  pub fixed_size : nat_abs s.fixed.0 ≤ 1000000000000

pub within_low : (l h n : ℕ) → within l h n ≡ true → l ≤ n
within_low l h n e = leb-true l n (both_left (leb l n) (leb n h) e)

pub within_high : (l h n : ℕ) → within l h n ≡ true → n ≤ h
within_high l h n e = leb-true n h (both_right (leb l n) (leb n h) e)

pub in_range : (s : Segment) → segment_in_range s ≡ true → InRange s
unfolding segment_in_range
in_range s e =
    let start = within 1 1000000 s.start.0 in
    let end = within 1 1000000 s.end.0 in
    let unit = within 0 1000000 s.unit.0 in
    let above = le_z (neg_ℤ (pos 1000000000000)) s.fixed.0 in
    let below = le_z s.fixed.0 (pos 1000000000000) in
    let fixed = above && below in
    let units = both_left (start && end && unit) fixed e in
    let ends = both_left (start && end) unit units in
    let starts = both_left start end ends in
    let z = both_right (start && end && unit) fixed e in
    record {
      start_low = within_low _ _ _ starts;
      start_high = within_high _ _ _ starts;
      end_low = within_low _ _ _ (both_right start end ends);
      end_high = within_high _ _ _ (both_right start end ends);
      unit_high = within_high _ _ _ (both_right (start && end) unit units);
      fixed_size = bounds.between_size 1000000000000 s.fixed.0 (both_left above below z) (both_right above below z);
    }

-- what the price rule asks
pub price_fits : (s : Segment) → InRange s → (r : ℕ) → r ≤ 1000000 → PriceFits s.unit.0 r s.fixed.0
price_fits s range r few =
    bounds.price_fits _ r _ 1000000 1000000 1000000000000 range.unit_high few range.fixed_size (omega arith)
