-- The awards of the books of the counterexamples, computed from the lists of all their divisions. Assumes nothing.
use Prim.Native.Nat.{ℕ, ◌+◌}
use native.Mathlib.Omega.{arith}
use mathlib.Core.List.{[], ◌∷◌}
use mathlib.Core.Option.{some, none}
use mathlib.Core.Path.{◌≡◌, refl, ap, ◌∙◌}
use lib.IntN.{pos}
use lib.ListN.{length}
use Rattle.lists.specs.All.{All}
use Rattle.lists.specs.Every.{every}
use Rattle.lists.specs.Those.{those}
use Rattle.money.specs.Price.{price_of}
use Rattle.refusal.specs.Verdict.{Accepted}
use Rattle.book.specs.Entries.{BookEntries}
use Rattle.book.specs.Rules.{segment_in_range, bid_in_range, segments_rise, start_not_negative, bid_verdict, bids_verdict, order_in_range, book_verdict}
use Rattle.sampling.specs.Entries.{TableEntries}
use Rattle.supply.specs.Supply.{on, offers, price_at}
use Rattle.supply.specs.Curve.{curves_of, NoCarriage}
use Rattle.supply.specs.Allocation.{bought, cost_of}
use Rattle.supply.specs.Meets.{meets}
use Rattle.divisions.specs.Listing.{down_from, allocations, divisions}
use Rattle.divisions.specs.Award.{Priced, gives_more, wins_tie, better, pick, best_of, award_of}
use Rattle.divisions.proofs.Carriage.{stored_keep}
use Rattle.without.specs.Without.{book_without}
use Rattle.clearing.specs.declared.Clearing.{Clearing}
use Rattle.clearing.specs.Clearing.{award_record, clear_sampled}
use Rattle.clearing.proofs.Answers.{covered, no_division, division}
use Rattle.awardtheorems.proofs.Rows.{record_quantity}
use Rattle.pricetheorems.specs.Told.{Uncovered, quantity_in, total_in}
use Rattle.pricetheorems.specs.Counterexamples.{as_bid, one_cent_off, two_cents_off, one_segment_off, Awards}

abbrev pub division_of : ℕ → ℕ → ℕ → Priced
division_of first second cents = record { cost = pos cents; blanks = first + second; quantities = first ∷ second ∷ [] }

-- an accepted book of two bids without carriage, and the best of its divisions
pub record Worked (b : BookEntries) (first second cents : ℕ) : Type 0 where
  pub accepted : book_verdict b ≡ Accepted
  pub two : 2 ≡ length b.bids
  pub stored : All NoCarriage b.bids
  pub best : award_of b.order (curves_of b.bids) ≡ some (division_of first second cents)

-- and one that has none
pub record WorkedNone (b : BookEntries) : Type 0 where
  pub accepted : book_verdict b ≡ Accepted
  pub stored : All NoCarriage b.bids
  pub uncovered : award_of b.order (curves_of b.bids) ≡ none

pub record AllWorked : Type 0 where
  pub as_bid_lem : Worked as_bid 2 0 20
  pub one_cent_off_lem : Worked one_cent_off 2 0 20
  pub two_cents_off_lem : Worked two_cents_off 1 1 19
  pub one_segment_off_lem : Worked one_segment_off 1 1 19
  pub without_first : WorkedNone (book_without 0 as_bid)

pub computed : AllWorked
unfolding every price_of segment_in_range bid_in_range segments_rise start_not_negative bid_verdict bids_verdict order_in_range book_verdict those on offers price_at bought cost_of meets
    down_from allocations divisions gives_more wins_tie better pick best_of award_of book_without
computed = record {
  as_bid_lem = record { accepted = refl; two = refl; stored = (refl, (refl, tt)); best = refl };
  one_cent_off_lem = record { accepted = refl; two = refl; stored = (refl, (refl, tt)); best = refl };
  two_cents_off_lem = record { accepted = refl; two = refl; stored = (refl, (refl, tt)); best = refl };
  one_segment_off_lem = record { accepted = refl; two = refl; stored = (refl, (refl, tt)); best = refl };
  without_first = record { accepted = refl; stored = (refl, tt); uncovered = refl };
}

-- what clearing answers
answered : (table : TableEntries) (b : BookEntries) (first second cents : ℕ) → Worked b first second cents → Awards (clear_sampled table b) first second cents
unfolding award_record
answered table b first second cents w =
    let award = division_of first second cents in
    let answer : clear_sampled table b ≡ covered table b award = division table b award w.accepted ((stored_keep b w.stored).award ∙ w.best) in
    record {
      covered = ap (λ (c : Clearing). c.verdict) answer;
      first_sells = ap (λ (c : Clearing). quantity_in c 0) answer ∙ record_quantity table b award w.two 0 (omega arith);
      second_sells = ap (λ (c : Clearing). quantity_in c 1) answer ∙ record_quantity table b award w.two 1 (omega arith);
      total = ap (λ (c : Clearing). total_in c) answer;
    }

module _ (table : TableEntries) where
  pub as_bid_lem : Awards (clear_sampled table as_bid) 2 0 20
  as_bid_lem = answered table as_bid 2 0 20 computed.as_bid_lem

  pub one_cent_off_lem : Awards (clear_sampled table one_cent_off) 2 0 20
  one_cent_off_lem = answered table one_cent_off 2 0 20 computed.one_cent_off_lem

  pub two_cents_off_lem : Awards (clear_sampled table two_cents_off) 1 1 19
  two_cents_off_lem = answered table two_cents_off 1 1 19 computed.two_cents_off_lem

  pub one_segment_off_lem : Awards (clear_sampled table one_segment_off) 1 1 19
  one_segment_off_lem = answered table one_segment_off 1 1 19 computed.one_segment_off_lem

  -- without bidder 1 one blank can be had, and two are wanted
  pub without_first : Uncovered (clear_sampled table (book_without 0 as_bid))
  without_first =
      let w = computed.without_first in
      ap (λ (c : Clearing). c.verdict) (no_division table (book_without 0 as_bid) w.accepted ((stored_keep (book_without 0 as_bid) w.stored).award ∙ w.uncovered))
