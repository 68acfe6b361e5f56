-- What clearing answers for a book that is covered: the total and the quantities of its award. Assumes nothing.
use Prim.Native.Nat.{ℕ, ◌≤◌, ◌<◌}
use native.Mathlib.Decide.{dec_lt}
use native.Mathlib.Omega.{arith}
use mathlib.Core.Path.{◌≡◌, ap, ◌∙◌}
use lib.ListN.{get_or, length-map}
use Rattle.book.specs.Entries.{BookEntries}
use Rattle.sampling.specs.Entries.{TableEntries}
use Rattle.supply.specs.Supply.{supply_of, supplies_of}
use Rattle.divisions.specs.Award.{Priced}
use Rattle.divisions.proofs.Award.{as_many}
use Rattle.award.specs.declared.Row.{Row}
use Rattle.clearing.specs.declared.Clearing.{Clearing}
use Rattle.clearing.specs.Clearing.{award_record, clear_sampled}
use Rattle.awardtheorems.specs.OfBook.{IsAwardOf}
use Rattle.awardtheorems.proofs.Rows.{record_quantity, record_beyond}
use Rattle.awardtheorems.proofs.Answers.{Cleared, cleared}
use Rattle.awardtheorems.proofs.Cleared.{award_of_book_lem}
use Rattle.pricetheorems.specs.Told.{Covered, quantity_in, total_in}

module _ (table : TableEntries) (b : BookEntries) (covered : Covered (clear_sampled table b)) where
  pub found : Cleared table b
  found = cleared table b covered

  abbrev pub award : Priced
  award = found.award

  pub is_award : IsAwardOf b award
  is_award = award_of_book_lem b award found.is_award

  pub total_is : total_in (clear_sampled table b) ≡ award.cost
  unfolding award_record
  total_is = ap (λ (c : Clearing). total_in c) found.answer

  -- of the first eight bidders, which are all that a record holds
  pub quantity_is : (i : ℕ) → i < 8 → quantity_in (clear_sampled table b) i ≡ get_or award.quantities i 0
  quantity_is i h =
      let many = as_many (supplies_of b.bids) award.quantities is_award.division.allocation ∙ length-map b.bids supply_of in
      ap (λ (c : Clearing). quantity_in c i) found.answer ∙ record_quantity table b award many i h

  quantity_beyond : (i : ℕ) → 8 ≤ i → quantity_in (clear_sampled table b) i ≡ 0
  quantity_beyond i h = ap (λ (c : Clearing). quantity_in c i) found.answer ∙ ap (λ (row : Row). row.quantity.0) (record_beyond table b award i h)

-- a bidder who sells no fewer in one award than in another is shown so
pub no_fewer : (table : TableEntries) (b b' : BookEntries) (covered : Covered (clear_sampled table b)) (covered' : Covered (clear_sampled table b')) (i : ℕ)
    → get_or (award table b covered).quantities i 0 ≤ get_or (award table b' covered').quantities i 0
    → quantity_in (clear_sampled table b) i ≤ quantity_in (clear_sampled table b') i
no_fewer table b b' covered covered' i h = go (dec_lt i 8)
  where
    go : Dec (i < 8) → quantity_in (clear_sampled table b) i ≤ quantity_in (clear_sampled table b') i
    go (yes l) = omega (arith, quantity_is table b covered i l, quantity_is table b' covered' i l)
    go (no l) = omega (arith, quantity_beyond table b covered i (omega arith))
