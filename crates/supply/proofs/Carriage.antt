-- Segments with a carriage: it is paid for each blank, it changes no quantity, and without one a supply function is the curve. Assumes nothing.
use Prim.Native.Nat.{ℕ, ◌+◌, ◌*◌}
use native.Mathlib.Nat.{add-zero}
use native.Mathlib.Omega.{arith}
use mathlib.Core.Bool.{true, false≢true}
use mathlib.Core.List.{List, [], ◌∷◌, map}
use mathlib.Core.Path.{◌≡◌, refl, ap, ap₂, ◌∙◌}
use borrow.Author.Tests.{le-leb}
use lib.IntN.{ℤ, pos, negsuc, ◌+ℤ◌, +ℤ_assoc, +ℤ_comm}
use lib.Signed.{le_z}
use Rattle.lists.specs.All.{All}
use Rattle.money.specs.Price.{price_of}
use Rattle.book.specs.declared.Segment.{Segment}
use Rattle.book.specs.Entries.{BidEntries}
use Rattle.book.specs.Rules.{segments_rise, start_not_negative, price_on}
use Rattle.supply.specs.Supply.{delivered, supply_of, supplies_of}
use Rattle.supply.specs.Curve.{curve_of, curves_of, NoCarriage}

-- the price without carriage, and the carriage for each blank
pub price_delivered : (carriage : ℕ) (s : Segment) (r : ℕ) → price_on (delivered carriage s) r ≡ price_on s r +ℤ pos (carriage * r)
unfolding price_of
price_delivered carriage s r =
    let f : ℤ = s.fixed.0 in
    let product : (s.unit.0 + carriage) * r ≡ carriage * r + s.unit.0 * r = omega arith in
    ap (λ (n : ℕ). pos n +ℤ f) product ∙ +ℤ_assoc (pos (carriage * r)) (pos (s.unit.0 * r)) f ∙ +ℤ_comm (pos (carriage * r)) (price_on s r)

-- so a price that is not negative is not with a carriage
not_lower : (z : ℤ) (n : ℕ) → le_z (pos 0) z ≡ true → le_z (pos 0) (z +ℤ pos n) ≡ true
not_lower (pos m) n e = le-leb 0 (m + n) (omega arith)
not_lower (negsuc m) n e = absurd (false≢true e)

pub start_delivered : (carriage : ℕ) (s : Segment) → start_not_negative s ≡ true → start_not_negative (delivered carriage s) ≡ true
unfolding start_not_negative
start_delivered carriage s e = rw (price_delivered carriage s s.start.0) (not_lower (price_on s s.start.0) (carriage * s.start.0) e)

-- the starts and ends are those of the curve
pub delivered_rise : (carriage before : ℕ) (ss : List Segment) → segments_rise before (map (delivered carriage) ss) ≡ segments_rise before ss
unfolding segments_rise
delivered_rise carriage before [] = refl
delivered_rise carriage before (s ∷ ss) = rw (delivered_rise carriage s.end.0 ss)

-- Without carriage.

none_delivered : (ss : List Segment) → map (delivered 0) ss ≡ ss
none_delivered [] = refl
none_delivered (s ∷ ss) = let same : delivered 0 s ≡ s = rw add-zero in ap₂ (λ (t : Segment) (ts : List Segment). t ∷ ts) same (none_delivered ss)

pub supply_curve : (b : BidEntries) → NoCarriage b → supply_of b ≡ curve_of b
unfolding supply_of
supply_curve b e = rw (e, none_delivered b.segments)

pub supplies_curves : (bids : List BidEntries) → All NoCarriage bids → supplies_of bids ≡ curves_of bids
supplies_curves [] none = refl
supplies_curves (b ∷ bs) none = ap₂ (λ (ss : List Segment) (sss : List (List Segment)). ss ∷ sss) (supply_curve b none.0) (supplies_curves bs none.1)
