-- What is not told is false: in the books that were computed it does not hold. Assumes nothing.
use Prim.Native.Nat.{ℕ, ◌+◌, ◌≤◌}
use native.Mathlib.Omega.{arith}
use mathlib.Core.List.{[], ◌∷◌}
use mathlib.Core.Path.{◌≡◌, refl}
use lib.Signed.{<ℤ_irrefl}
use Rattle.refusal.specs.declared.Rule.TheVariants.{NotCovered}
use Rattle.sampling.specs.Sampling.{printed_table}
use Rattle.divisions.proofs.AtMost.{most_pos}
use Rattle.pricechanges.specs.Discount.{CheaperSegment, CheaperBid, Discounted}
use Rattle.pricechanges.specs.Raise.{Raised}
use Rattle.pricechanges.proofs.Discount.{discount_raised}
use Rattle.without.specs.Without.{book_without}
use Rattle.clearing.specs.declared.Clearing.{Clearing}
use Rattle.clearing.specs.Clearing.{clear_of}
use Rattle.awardtheorems.proofs.Apart.{accepted_refused}
use Rattle.pricetheorems.specs.Struck.{Struck}
use Rattle.pricetheorems.specs.Laws.{OfBooks}
use Rattle.pricetheorems.specs.NotTold.{MoreBlanks, NobodyLoses, LowerTotal, NoHigherTotal, StaysCovered, DiscountedOnce, NoFewerBlanks}
use Rattle.pricetheorems.specs.Counterexamples.{lot, bid_of, two_blanks, as_bid, one_cent_off, two_cents_off, one_segment_off, Awards}
use Rattle.pricetheorems.proofs.Worked.{computed, as_bid_lem, one_cent_off_lem, two_cents_off_lem, one_segment_off_lem, without_first}

-- by the printed table

before : Awards (clear_of as_bid) 2 0 20
before = as_bid_lem printed_table

level : Awards (clear_of one_cent_off) 2 0 20
level = one_cent_off_lem printed_table

under : Awards (clear_of two_cents_off) 1 1 19
under = two_cents_off_lem printed_table

-- ---- a discount of bidder 2, on its one segment

off_second : (cents unit : ℕ) → unit + cents ≡ 11 → 1 ≤ cents → Discounted cents 1 as_bid (two_blanks (lot 1 10 ∷ lot 2 10 ∷ []) (lot 1 unit ∷ []))
off_second cents unit e h =
    let segment : CheaperSegment cents (lot 1 11) (lot 1 unit) = record { start = refl; end = refl; unit = e; fixed = refl } in
    let bid : CheaperBid cents (bid_of 2 (lot 1 11 ∷ [])) (bid_of 2 (lot 1 unit ∷ [])) = record { bidder = refl; carriage = refl; count = refl; segments = (segment, tt) } in
    record { one_cent = h; changed = record { order = refl; count = refl; bids = (refl, (bid, refl)) } }

one_off : Discounted 1 1 as_bid one_cent_off
one_off = off_second 1 10 refl (omega arith)

two_off : Discounted 2 1 as_bid two_cents_off
two_off = off_second 2 9 refl (omega arith)

module _ (P : ℕ → Clearing → Clearing → Type 0) (law : (cents i : ℕ) → OfBooks (Discounted cents i) (P i)) where
  by_one_cent : P 1 (clear_of as_bid) (clear_of one_cent_off)
  by_one_cent = law 1 1 printed_table as_bid one_cent_off computed.as_bid_lem.accepted computed.one_cent_off_lem.accepted one_off

  by_two_cents : P 1 (clear_of as_bid) (clear_of two_cents_off)
  by_two_cents = law 2 1 printed_table as_bid two_cents_off computed.as_bid_lem.accepted computed.two_cents_off_lem.accepted two_off

-- with one cent off it still sells nothing, and the total is what it was
pub no_more_blanks : ((cents i : ℕ) → OfBooks (Discounted cents i) (MoreBlanks i)) → ⊥
no_more_blanks law = omega (arith, by_one_cent MoreBlanks law before.covered level.covered, before.second_sells, level.second_sells)

pub no_lower_total : ((cents i : ℕ) → OfBooks (Discounted cents i) (LowerTotal i)) → ⊥
no_lower_total law = let lower = by_one_cent LowerTotal law before.covered level.covered in <ℤ_irrefl (rw (before.total, level.total) at lower)

-- with two cents off it sells a blank, and bidder 1 sells one less
pub somebody_loses : ((cents i : ℕ) → OfBooks (Discounted cents i) (NobodyLoses i)) → ⊥
somebody_loses law = omega (arith, by_two_cents NobodyLoses law before.covered under.covered 0, before.first_sells, under.first_sells)

-- ---- two cents off bidder 1's first segment alone: it sells one blank less

off_one : DiscountedOnce 2 0 0 as_bid one_segment_off
off_one =
    let segment : CheaperSegment 2 (lot 1 10) (lot 1 8) = record { start = refl; end = refl; unit = refl; fixed = refl } in
    record {
      one_cent = omega arith;
      changed = record { order = refl; count = refl; bids = (record { bidder = refl; carriage = refl; count = refl; segments = (segment, refl) }, refl) };
    }

pub all_segments_needed : ((cents i j : ℕ) → OfBooks (DiscountedOnce cents i j) (NoFewerBlanks i)) → ⊥
all_segments_needed law =
    let after = one_segment_off_lem printed_table in
    let no_fewer = law 2 0 0 printed_table as_bid one_segment_off computed.as_bid_lem.accepted computed.one_segment_off_lem.accepted off_one in
    omega (arith, no_fewer before.covered after.covered, before.first_sells, after.first_sells)

-- ---- bidder 2's two cents taken back: the total rises by one

pub total_can_rise : OfBooks Raised NoHigherTotal → ⊥
total_can_rise law =
    let raised = discount_raised 2 1 as_bid two_cents_off two_off in
    let no_higher = law printed_table two_cents_off as_bid computed.two_cents_off_lem.accepted computed.as_bid_lem.accepted raised under.covered before.covered in
    omega (arith, most_pos 20 19 (rw (before.total, under.total) at no_higher))

-- ---- bidder 1 struck: two blanks cannot be had any more

pub cover_can_be_lost : ((i : ℕ) → OfBooks (Struck i) StaysCovered) → ⊥
cover_can_be_lost law =
    let left = book_without 0 as_bid in
    let struck : Struck 0 as_bid left = record { bid = omega arith; rest = refl } in
    let covered = law 0 printed_table as_bid left computed.as_bid_lem.accepted computed.without_first.accepted struck before.covered in
    accepted_refused (clear_of left).verdict NotCovered 0 covered (without_first printed_table)
