-- The award with a discount: the bidder sells no fewer blanks; and a discount taken back is a raise of prices. Assumes nothing.
use Prim.Native.Nat.{ℕ, ◌*◌, ◌≤◌}
use native.Mathlib.Nat.{le_of_mul-le-mul_left}
use native.Mathlib.Omega.{arith}
use mathlib.Core.List.{List}
use mathlib.Core.Path.{◌≡◌, refl, sym, ap, ◌∙◌, subst}
use lib.IntN.{ℤ, pos, ◌+ℤ◌, +ℤ_comm}
use lib.ListN.{get_or}
use lib.Signed.{◌≤ℤ◌, ≤ℤ_refl}
use Rattle.lists.specs.Pairwise.{Pairwise, ChangedAt}
use Rattle.lists.proofs.Pairwise.{pairwise_from, pairwise_same, changed_from, changed_map, changed_pairwise, pairwise_back}
use Rattle.money.specs.declared.Cents.{Cents}
use Rattle.book.specs.declared.Segment.{Segment}
use Rattle.book.specs.declared.Order.{Order}
use Rattle.book.specs.Entries.{BidEntries, BookEntries}
use Rattle.supply.specs.Supply.{supply_of, supplies_of}
use Rattle.supply.specs.Allocation.{cost_of}
use Rattle.supply.proofs.Compared.{ComparedSupply}
use Rattle.divisions.specs.Division.{Division}
use Rattle.divisions.specs.Award.{Priced}
use Rattle.divisions.specs.IsAward.{IsAward}
use Rattle.divisions.proofs.AtMost.{most_trans, most_sum, most_cancel, most_pos}
use Rattle.divisions.proofs.Dominance.{cheapest}
use Rattle.pricechanges.specs.Discount.{CheaperSegment, CheaperBid, Discounted}
use Rattle.pricechanges.specs.Raise.{RaisedSegment, RaisedBid, Raised}
use Rattle.pricechanges.proofs.Prices.{Above, cheaper_supply}
use Rattle.pricechanges.proofs.Divisions.{SameOffers, same_divisions, costs_less}

-- a is at most b, and less p it is at least b less q: then p is at most q
more_off : (a b a' b' p q : ℤ) → a ≡ a' +ℤ p → b ≡ b' +ℤ q → a ≤ℤ b → b' ≤ℤ a' → p ≤ℤ q
more_off a b a' b' p q e f h k =
    let low : (b' +ℤ p) ≤ℤ a = subst (λ (z : ℤ). (b' +ℤ p) ≤ℤ z) (sym e) (most_sum b' a' p p k (≤ℤ_refl p)) in
    let high : (b' +ℤ p) ≤ℤ (b' +ℤ q) = subst (λ (z : ℤ). (b' +ℤ p) ≤ℤ z) f (most_trans (b' +ℤ p) a b low h) in
    most_cancel p q b' (rw (+ℤ_comm p b', +ℤ_comm q b') high)

-- At the old prices the old award costs no more than the new one, and at the new prices the new one no more than the old. So the discount takes
-- no less off the new one.
module _ (order : Order) (supplies supplies' : List (List Segment)) (cents i : ℕ) (off : ChangedAt i (ComparedSupply (Above cents)) supplies supplies') where
  same : Pairwise SameOffers supplies supplies'
  same = changed_pairwise SameOffers (λ ss r. refl) i supplies supplies' (changed_from (ComparedSupply (Above cents)) SameOffers (λ ss ss' c. c.offered) i supplies supplies' off)

  pub sells_no_fewer : 1 ≤ cents → (award award' : Priced) → IsAward order supplies award → IsAward order supplies' award'
      → get_or award.quantities i 0 ≤ get_or award'.quantities i 0
  sells_no_fewer one_cent award award' is is' =
      let xs = award.quantities in
      let ys = award'.quantities in
      let old : Division order supplies ys = (same_divisions order supplies supplies' same ys).1 is'.division in
      let new : Division order supplies' xs = (same_divisions order supplies supplies' same xs).0 is.division in
      let taken = more_off award.cost (cost_of supplies ys) (cost_of supplies' xs) award'.cost (pos (cents * get_or xs i 0)) (pos (cents * get_or ys i 0))
      (is.cost ∙ costs_less cents i supplies supplies' off xs is.division.allocation)
      (costs_less cents i supplies supplies' off ys old.allocation ∙ ap (λ (z : ℤ). z +ℤ pos (cents * get_or ys i 0)) (sym is'.cost))
      (cheapest order supplies award is ys old) (cheapest order supplies' award' is' xs new) in
      le_of_mul-le-mul_left {k = cents} (most_pos (cents * get_or xs i 0) (cents * get_or ys i 0) taken) one_cent

module _ (cents i : ℕ) (b b' : BookEntries) (discounted : Discounted cents i b b') where
  pub discount_sells : (award award' : Priced) → IsAward b.order (supplies_of b.bids) award → IsAward b'.order (supplies_of b'.bids) award'
      → get_or award.quantities i 0 ≤ get_or award'.quantities i 0
  discount_sells award award' is is' =
      let off = changed_map supply_of (ComparedSupply (Above cents)) i b.bids b'.bids
      (changed_from (CheaperBid cents) _ (cheaper_supply cents) i b.bids b'.bids discounted.changed.bids) in
      sells_no_fewer b.order (supplies_of b.bids) (supplies_of b'.bids) cents i off discounted.one_cent award award' is
      (subst (λ (order : Order). IsAward order (supplies_of b'.bids) award') discounted.changed.order is')

-- ---- a discount taken back is a raise of prices

cheaper_raised : (cents : ℕ) (s s' : Segment) → CheaperSegment cents s s' → RaisedSegment s' s
cheaper_raised cents s s' c = record {
  start = sym c.start;
  end = sym c.end;
  unit = omega (arith, c.unit);
  fixed = subst (λ (x : Cents). x.0 ≤ℤ s.fixed.0) (sym c.fixed) (≤ℤ_refl s.fixed.0);
}

cheaper_bid_raised : (cents : ℕ) (b b' : BidEntries) → CheaperBid cents b b' → RaisedBid b' b
cheaper_bid_raised cents b b' c = record {
  bidder = sym c.bidder;
  carriage = sym c.carriage;
  count = sym c.count;
  segments = pairwise_back _ b.segments b'.segments
      (pairwise_from (CheaperSegment cents) (λ s s'. RaisedSegment s' s) (cheaper_raised cents) b.segments b'.segments c.segments);
}

raised_same : (b : BidEntries) → RaisedBid b b
raised_same b = record {
  bidder = refl;
  carriage = refl;
  count = refl;
  segments = pairwise_same RaisedSegment (λ s. record { start = refl; end = refl; unit = omega arith; fixed = ≤ℤ_refl s.fixed.0 }) b.segments;
}

pub discount_raised : (cents i : ℕ) (b b' : BookEntries) → Discounted cents i b b' → Raised b' b
discount_raised cents i b b' d = record {
  order = sym d.changed.order;
  count = sym d.changed.count;
  bids = pairwise_back _ b.bids b'.bids
      (changed_pairwise (λ x y. RaisedBid y x) raised_same i b.bids b'.bids
      (changed_from (CheaperBid cents) (λ x y. RaisedBid y x) (cheaper_bid_raised cents) i b.bids b'.bids d.changed.bids));
}
