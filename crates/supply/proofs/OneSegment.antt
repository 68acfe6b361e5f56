-- Of segments that rise a quantity is on at most one: its price is the one there, and strictly inside is inside that one. Assumes nothing.
use Prim.Native.Nat.{ℕ, zero, suc, ◌≤◌, ◌<◌}
use native.Mathlib.Nat.{le_of_suc-le-suc}
use native.Mathlib.Omega.{arith}
use mathlib.Core.Bool.{true, false, and-false, or-false}
use mathlib.Core.List.Memᴰ
use mathlib.Core.List.Memᴰ.{head as here}
use mathlib.Core.List.Memᴰ.{tail as there}
use mathlib.Core.List.{List, [], ◌∷◌, Memᴰ as In}
use mathlib.Core.Path.{◌≡◌, refl, ap}
use borrow.Author.Tests.{lt-leb, le-ltb}
use lib.ListN.{length, get_or}
use Rattle.lists.proofs.Members.{in_at}
use Rattle.book.specs.declared.Segment.{Segment}
use Rattle.book.specs.Rules.{segments_rise, price_on}
use Rattle.book.proofs.InRange.{within_low, within_high}
use Rattle.book.proofs.Rising.{step}
use Rattle.supply.specs.Supply.{segment0, on, price_at, inside, stands_inside}

-- segment j of a supply function, from 0 on
abbrev pub segment_at : List Segment → ℕ → Segment
segment_at ss j = get_or ss j segment0

pub on_low : (s : Segment) (r : ℕ) → on s r ≡ true → s.start.0 ≤ r
unfolding on
on_low s r e = within_low s.start.0 s.end.0 r e

pub on_high : (s : Segment) (r : ℕ) → on s r ≡ true → r ≤ s.end.0
unfolding on
on_high s r e = within_high s.start.0 s.end.0 r e

pub off_above : (s : Segment) (r : ℕ) → s.end.0 < r → on s r ≡ false
unfolding on
off_above s r h = rw (lt-leb r s.end.0 h, and-false)

-- a quantity on a later segment is above what stands before
pub beyond : (before : ℕ) (ss : List Segment) (s : Segment) (r : ℕ) → segments_rise before ss ≡ true → In s ss → on s r ≡ true → before < r
beyond before [] s r e m o = absurd (Memᴰ.not-nil m)
beyond before (t ∷ ts) s r e (here p) o =
    let i = step before t ts e in
    let o' : on t r ≡ true = rw p at o in
    omega (arith, i.above, on_low t r o')
beyond before (t ∷ ts) s r e (there m) o =
    let i = step before t ts e in
    omega (arith, i.above, i.order, beyond t.end.0 ts s r i.rest m o)

-- Of a segment and those that rise above its end: a quantity on one of them is on no other, and has the price there.

pub price_there : (s : Segment) (r : ℕ) (t : Segment) (ts : List Segment) → segments_rise t.end.0 ts ≡ true → In s (t ∷ ts) → on s r ≡ true
    → price_at (t ∷ ts) r ≡ price_on s r
unfolding price_at
price_there s r t ts e (here p) o = let o' : on t r ≡ true = rw p at o in rw (o', p)
price_there s r t [] e (there m) o = absurd (Memᴰ.not-nil m)
price_there s r t (u ∷ us) e (there m) o =
    rw (off_above t r (beyond t.end.0 (u ∷ us) s r e m o)) (price_there s r u us (step t.end.0 u us e).rest m o)

pub one_there : (s : Segment) (ss : List Segment) (j k r : ℕ) → segments_rise s.end.0 ss ≡ true → j < length (s ∷ ss) → k < length (s ∷ ss)
    → on (segment_at (s ∷ ss) j) r ≡ true → on (segment_at (s ∷ ss) k) r ≡ true → j ≡ k
one_there s ss zero zero r e hj hk oj ok = refl
one_there s ss zero (suc k) r e hj hk oj ok = absurd (omega (arith, on_high s r oj, beyond s.end.0 ss (segment_at ss k) r e (in_at segment0 ss k (le_of_suc-le-suc hk)) ok))
one_there s ss (suc j) zero r e hj hk oj ok = absurd (omega (arith, on_high s r ok, beyond s.end.0 ss (segment_at ss j) r e (in_at segment0 ss j (le_of_suc-le-suc hj)) oj))
one_there s [] (suc j) (suc k) r e hj hk oj ok = absurd (omega arith)
one_there s (t ∷ ts) (suc j) (suc k) r e hj hk oj ok =
    ap suc (one_there t ts j k r (step s.end.0 t ts e).rest (le_of_suc-le-suc hj) (le_of_suc-le-suc hk) oj ok)

-- it stands strictly inside that one or nowhere

out_above : (s : Segment) (r : ℕ) → s.end.0 < r → inside s r ≡ false
unfolding inside
out_above s r h = rw (le-ltb r s.end.0 (omega arith), and-false)

out_below : (s : Segment) (r : ℕ) → r ≤ s.start.0 → inside s r ≡ false
unfolding inside
out_below s r h = rw (le-ltb s.start.0 r h)

-- a quantity that is not above what stands before is inside no later segment
none_later : (before : ℕ) (ss : List Segment) (r : ℕ) → segments_rise before ss ≡ true → r ≤ before → stands_inside ss r ≡ false
unfolding stands_inside
none_later before [] r e h = refl
none_later before (t ∷ ts) r e h =
    let i = step before t ts e in
    let l : r ≤ t.start.0 = omega (arith, i.above) in
    rw (out_below t r l) (none_later t.end.0 ts r i.rest (omega (arith, i.order)))

pub inside_there : (s : Segment) (r : ℕ) (t : Segment) (ts : List Segment) → segments_rise t.end.0 ts ≡ true → In s (t ∷ ts) → on s r ≡ true
    → stands_inside (t ∷ ts) r ≡ inside s r
unfolding stands_inside
inside_there s r t ts e (here p) o =
    let o' : on t r ≡ true = rw p at o in
    rw (none_later t.end.0 ts r e (on_high t r o'), p) (or-false (inside t r))
inside_there s r t [] e (there m) o = absurd (Memᴰ.not-nil m)
inside_there s r t (u ∷ us) e (there m) o =
    rw (out_above t r (beyond t.end.0 (u ∷ us) s r e m o)) (inside_there s r u us (step t.end.0 u us e).rest m o)
