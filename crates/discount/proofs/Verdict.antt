-- A discount on a bid of an accepted book is refused by rule 8 alone, in the bid's line. Assumes nothing.
use Prim.Native.Nat.{ℕ, zero, suc, ◌+◌, ◌-◌}
use native.Mathlib.Omega.{arith}
use mathlib.Core.Bool.{Bool, true, ◌&&◌}
use mathlib.Core.List.{List, [], ◌∷◌, map}
use mathlib.Core.Path.{◌≡◌, refl, ap, ◌∙◌}
use borrow.Author.Tests.{le-leb}
use lib.Dec.{leb, ltb}
use lib.IntN.{pos, neg_ℤ}
use lib.ListN.{get_or}
use Rattle.std.specs.Prelude.{Ok, Err}
use Rattle.lists.specs.Every.{every}
use Rattle.lists.proofs.All.{all_tested, all_from}
use Rattle.lists.proofs.Tests.{both_left, both_right, both_hold}
use Rattle.lists.proofs.Everywhere.{every_map, every_all}
use Rattle.refusal.specs.Checks.{unless, first_of}
use Rattle.refusal.specs.declared.Rule.TheVariants.{BidCount, Range, NegativePrice}
use Rattle.refusal.specs.Verdict.{Verdict}
use Rattle.refusal.specs.Verdict.{Accepted}
use Rattle.refusal.proofs.Firsts.{all_passed, test_holds, only}
use Rattle.book.specs.declared.Segment.{Segment}
use Rattle.book.specs.Entries.{BidEntries, BookEntries}
use Rattle.book.specs.Rules.{within, within_z, segment_in_range, bid_in_range, segments_rise, start_not_negative, bid_verdict, bids_verdict, order_in_range, book_verdict}
use Rattle.book.proofs.InRange.{in_range}
use Rattle.discount.specs.Discount.{segment_off, bid_off, bids_off, book_off}
use Rattle.discount.specs.Named.{Named}
use Rattle.discount.proofs.Bidder.{none_off}

-- a check before one that accepts
before_accepted : (v : Verdict) → first_of (v ∷ Accepted ∷ []) ≡ v
before_accepted (Ok _) = refl
before_accepted (Err refusal) = refl

-- whether rule 8 is kept with so many cents off
abbrev pub kept_off : ℕ → BidEntries → Bool
kept_off cents b = every start_not_negative (map (segment_off cents) b.segments)

module _ (cents : ℕ) where
  -- rule 5 is kept, and so is rule 7
  range_off : (s : Segment) → segment_in_range s ≡ true → segment_in_range (segment_off cents s) ≡ true
  unfolding segment_in_range
  range_off s e =
      let start = within 1 1000000 s.start.0 in
      let end = within 1 1000000 s.end.0 in
      let unit = within 0 1000000 s.unit.0 in
      let fixed = within_z (neg_ℤ (pos 1000000000000)) (pos 1000000000000) s.fixed.0 in
      let high = (in_range s e).unit_high in
      let less = s.unit.0 - cents in
      let off : within 0 1000000 less ≡ true =
      both_hold (leb 0 less) (leb less 1000000) (le-leb 0 less (omega arith)) (le-leb less 1000000 (omega arith)) in
      let ends = both_left (start && end) unit (both_left (start && end && unit) fixed e) in
      both_hold (start && end && within 0 1000000 less) fixed (both_hold (start && end) (within 0 1000000 less) ends off)
      (both_right (start && end && unit) fixed e)

  rise_off : (before : ℕ) (ss : List Segment) → segments_rise before (map (segment_off cents) ss) ≡ segments_rise before ss
  unfolding segments_rise
  rise_off before [] = refl
  rise_off before (s ∷ ss) = ap (λ (b : Bool). ltb before s.start.0 && leb s.start.0 s.end.0 && b) (rise_off s.end.0 ss)

  ranges_off : (ss : List Segment) → every segment_in_range ss ≡ true → every segment_in_range (map (segment_off cents) ss) ≡ true
  ranges_off ss e =
      every_map segment_in_range (segment_off cents) ss
      ∙ every_all (λ s. segment_in_range (segment_off cents s)) ss (all_from _ _ range_off ss (all_tested segment_in_range ss e))

  -- a bid on its line
  bid_verdict_lem : (line before : ℕ) (b : BidEntries) → bid_verdict line before b ≡ Accepted
      → bid_verdict line before (bid_off cents b) ≡ unless (kept_off cents b) NegativePrice line
  unfolding bid_verdict bid_in_range
  bid_verdict_lem line before b e =
      let (count, (ranges, (above, (rises, _)))) = all_passed (_ ∷ _ ∷ _ ∷ _ ∷ unless (every start_not_negative b.segments) NegativePrice line ∷ []) e in
      let counted : within 1 6 b.count ≡ true = test_holds _ _ _ count in
      let ranged = test_holds _ _ _ ranges in
      let front = within 1 9999 b.bidder && within 0 10000 b.carriage in
      let head : front ≡ true = both_left front _ ranged in
      let segments = ranges_off b.segments (both_right front _ ranged) in
      let after : ltb before b.bidder ≡ true = test_holds _ _ _ above in
      let rise : segments_rise 0 (map (segment_off cents) b.segments) ≡ true = rise_off 0 b.segments ∙ test_holds _ _ _ rises in
      rw (counted, head, segments, after, rise) (only _)

  -- the bids from a line on
  bids_verdict_lem : (bidder line before : ℕ) (bs : List BidEntries) (i : ℕ) (d : BidEntries) → Named bidder bs i → bids_verdict line before bs ≡ Accepted
      → bids_verdict line before (bids_off bidder cents bs) ≡ unless (kept_off cents (get_or bs i d)) NegativePrice (line + i)
  unfolding bids_verdict
  bids_verdict_lem bidder line before (b ∷ bs) zero d n e =
      let (here, (rest, _)) = all_passed (bid_verdict line before b ∷ bids_verdict (line + 1) b.bidder bs ∷ []) e in
      let at : line ≡ line + 0 = omega arith in
      rw (n.0, bid_verdict_lem line before b here, none_off bidder cents bs n.1, rest) (before_accepted _ ∙ ap (unless (kept_off cents b) NegativePrice) at)
  bids_verdict_lem bidder line before [] i d n e = elim n [ ]
  bids_verdict_lem bidder line before (b ∷ bs) (suc i) d n e =
      let (here, (rest, _)) = all_passed (bid_verdict line before b ∷ bids_verdict (line + 1) b.bidder bs ∷ []) e in
      let at : line + 1 + i ≡ line + suc i = omega arith in
      rw (n.0, here, bids_verdict_lem bidder (line + 1) b.bidder bs i d n.1 rest) (only _ ∙ ap (unless (kept_off cents (get_or bs i d)) NegativePrice) at)

-- the book
pub verdict_off : (b : BookEntries) (bidder i cents : ℕ) (d : BidEntries) → book_verdict b ≡ Accepted → Named bidder b.bids i
    → book_verdict (book_off b bidder cents) ≡ unless (kept_off cents (get_or b.bids i d)) NegativePrice (2 + i)
unfolding book_verdict book_off
verdict_off b bidder i cents d e n =
    let (asked, (some-bids, (bids, (few_bids, _)))) =
    all_passed (unless (order_in_range b.order) Range 1 ∷ unless (ltb 0 b.count) BidCount 2 ∷ bids_verdict 2 0 b.bids ∷ unless (leb b.count 8) BidCount 10 ∷ []) e in
    rw (asked, some-bids, bids_verdict_lem cents bidder 2 0 b.bids i d n bids, few_bids) (before_accepted _)
