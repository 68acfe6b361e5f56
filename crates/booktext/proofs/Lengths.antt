-- The text of an accepted book has at least 37 bytes and at most 2,201. Assumes nothing.
use Prim.Native.Nat.{ℕ, suc, ◌+◌, ◌*◌, ◌≤◌}
use native.Mathlib.Nat.{mul-le-mul}
use native.Mathlib.Omega.{arith}
use mathlib.Core.Bool.{Bool, true, false, false≢true}
use mathlib.Core.List.{List, [], ◌∷◌}
use mathlib.Core.Path.{◌≡◌, refl}
use borrow.Author.Tests.{ltb-false}
use lib.Dec.{ltb}
use lib.IntN.{ℤ, pos, negsuc, nat_abs}
use lib.ListN.{length, length-append}
use lib.Signed.{le_z}
use Rattle.lists.specs.All.{All}
use Rattle.lists.specs.Joined.{joined}
use Rattle.lists.proofs.All.{all_tested, all_from, all_both, all_any}
use Rattle.lists.proofs.Joined.{joined_short, joined_long}
use Rattle.money.specs.Price.{price_of}
use Rattle.refusal.specs.Verdict.{Accepted}
use Rattle.book.specs.declared.Segment.{Segment}
use Rattle.book.specs.Entries.{BidEntries, BookEntries}
use Rattle.book.specs.Rules.{segment_in_range, segments_rise, start_not_negative, book_verdict}
use Rattle.book.specs.Accepted.{AcceptedBid}
use Rattle.book.proofs.Accepted.{book_accepted, all_accepted}
use Rattle.book.proofs.InRange.{InRange, in_range}
use Rattle.book.proofs.Rising.{step}
use Rattle.forms.specs.Digits.{digits, signed_digits}
use Rattle.forms.proofs.Digits.{length_below, some_digit}
use Rattle.booktext.specs.BookText.{segment_text, bid_head, bid_text, book_head, book_text}
use Rattle.booktext.specs.WellFormed.{WellFormedBid, WellFormedBook}

-- ---- at most

seven : (n : ℕ) → n ≤ 1000000 → length (digits n) ≤ 7
seven n h = length_below 6 n (omega arith)

six : (n : ℕ) → n ≤ 999999 → length (digits n) ≤ 6
six n h = length_below 5 n (omega arith)

five : (n : ℕ) → n ≤ 10000 → length (digits n) ≤ 5
five n h = length_below 4 n (omega arith)

four : (n : ℕ) → n ≤ 9999 → length (digits n) ≤ 4
four n h = length_below 3 n (omega arith)

-- the sign and thirteen digits
fourteen : (z : ℤ) → nat_abs z ≤ 1000000000000 → length (signed_digits z) ≤ 14
unfolding signed_digits
fourteen (pos n) h = omega (arith, length_below 12 n (omega arith))
fourteen (negsuc n) h = omega (arith, length_below 12 (suc n) (omega arith))

-- what a negative fixed price takes off is at most the rest of the price, where that is not negative
taken_off : (unit r n : ℕ) → le_z (pos 0) (price_of unit r (negsuc n)) ≡ true → suc n ≤ unit * r
unfolding price_of
taken_off unit r n e = go (ltb (unit * r) (suc n)) refl
  where
    go : (t : Bool) → ltb (unit * r) (suc n) ≡ t → suc n ≤ unit * r
    go true h = absurd (false≢true (rw h at e))
    go false h = ltb-false (unit * r) (suc n) h

-- so it has twelve digits at most where the start has six
thirteen : (unit r : ℕ) (z : ℤ) → unit ≤ 1000000 → r ≤ 999999 → nat_abs z ≤ 1000000000000 → le_z (pos 0) (price_of unit r z) ≡ true
    → length (signed_digits z) ≤ 13
unfolding signed_digits
thirteen unit r (pos n) h k size e = length_below 12 n (omega arith)
thirteen unit r (negsuc n) h k size e =
    let price : unit * r ≤ 1000000 * 999999 = mul-le-mul h k in
    omega (arith, length_below 11 (suc n) (omega (arith, taken_off unit r n e)))

last_short : (s : Segment) → InRange s → length (segment_text s) ≤ 45
unfolding segment_text
last_short s r =
    let start = seven s.start.0 r.start_high in
    let end = seven s.end.0 r.end_high in
    let unit = seven s.unit.0 r.unit_high in
    let fixed = fourteen s.fixed.0 r.fixed_size in
    simp length-append (omega arith)

-- a segment that another one follows
inner_short : (s : Segment) → InRange s → start_not_negative s ≡ true → s.start.0 ≤ s.end.0 → s.end.0 ≤ 999999 → length (segment_text s) ≤ 42
unfolding segment_text start_not_negative
inner_short s r price rises below =
    let start = six s.start.0 (omega arith) in
    let end = six s.end.0 below in
    let unit = seven s.unit.0 r.unit_high in
    let fixed = thirteen s.unit.0 s.start.0 s.fixed.0 r.unit_high (omega arith) r.fixed_size price in
    simp length-append (omega arith)

abbrev Kept : Segment → Type 0
Kept s = (segment_in_range s ≡ true) × (start_not_negative s ≡ true)

-- 42 for each but the last, which has 45
segments_short : (before : ℕ) (s : Segment) (ss : List Segment) → segments_rise before (s ∷ ss) ≡ true → All Kept (s ∷ ss)
    → length (joined segment_text (s ∷ ss)) ≤ 42 * length ss + 45
segments_short before s [] e h = simp length-append (omega (arith, last_short s (in_range s h.0.0)))
segments_short before s (t ∷ ss) e h =
    let rises = step before s (t ∷ ss) e in
    let next = step s.end.0 t ss rises.rest in
    let below : s.end.0 ≤ 999999 = omega (arith, next.above, (in_range t h.1.0.0).start_high) in
    let here = inner_short s (in_range s h.0.0) h.0.1 rises.order below in
    let rest = segments_short s.end.0 t ss rises.rest h.1 in
    omega (arith, length-append (segment_text s) (joined segment_text (t ∷ ss)))

bid_segments : (ss : List Segment) → segments_rise 0 ss ≡ true → All Kept ss → length ss ≤ 6 → length (joined segment_text ss) ≤ 255
bid_segments [] e h few = omega arith
bid_segments (s ∷ ss) e h few = omega (arith, segments_short 0 s ss e h)

-- 17, and those
bid_short : (b : BidEntries) → WellFormedBid b × AcceptedBid b → length (bid_text b) ≤ 272
unfolding bid_head bid_text
bid_short b h =
    let keeps = h.1 in
    let ranges = all_tested segment_in_range b.segments keeps.ranges in
    let prices = all_tested start_not_negative b.segments keeps.not_negative in
    let bidder = four b.bidder keeps.bidder_high in
    let carriage = five b.carriage keeps.carriage_high in
    let few : length b.segments ≤ 6 = omega (arith, h.0.count, keeps.count_high) in
    let segments = bid_segments b.segments keeps.rises (all_both _ _ b.segments ranges prices) few in
    simp length-append (omega arith)

-- 25, and 272 for each of at most eight bids
pub text_short : (b : BookEntries) → WellFormedBook b → book_verdict b ≡ Accepted → length (book_text b) ≤ 2201
unfolding book_head book_text
text_short b well_formed accepted =
    let keeps = book_accepted b accepted in
    let demand = seven b.order.demand.0 keeps.demand_high in
    let allowance = seven b.order.allowance.0 keeps.allowance_high in
    let both = all_both WellFormedBid AcceptedBid b.bids well_formed.bids (all_accepted b accepted) in
    let bids = joined_short bid_text 272 b.bids (all_from _ _ bid_short b.bids both) in
    simp length-append (omega (arith, keeps.count_high, well_formed.count))

-- ---- at least

some_signed : (z : ℤ) → 1 ≤ length (signed_digits z)
unfolding signed_digits
some_signed (pos n) = some_digit n
some_signed (negsuc n) = omega (arith, some_digit (suc n))

segment_long : (s : Segment) → 14 ≤ length (segment_text s)
unfolding segment_text
segment_long s =
    let start = some_digit s.start.0 in
    let end = some_digit s.end.0 in
    let unit = some_digit s.unit.0 in
    let fixed = some_signed s.fixed.0 in
    simp length-append (omega arith)

bid_long : (b : BidEntries) → WellFormedBid b → 24 ≤ length (bid_text b)
unfolding bid_head bid_text
bid_long b h =
    let bidder = some_digit b.bidder in
    let carriage = some_digit b.carriage in
    let segments = joined_long segment_text 14 b.segments (omega (arith, h.count, h.some)) (all_any _ segment_long b.segments) in
    simp length-append (omega arith)

pub text_long : (b : BookEntries) → WellFormedBook b → 37 ≤ length (book_text b)
unfolding book_head book_text
text_long b h =
    let demand = some_digit b.order.demand.0 in
    let allowance = some_digit b.order.allowance.0 in
    let bids = joined_long bid_text 24 b.bids (omega (arith, h.count, h.some)) (all_from _ _ bid_long b.bids h.bids) in
    simp length-append (omega arith)
