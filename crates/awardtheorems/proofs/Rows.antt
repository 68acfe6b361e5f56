-- The rows of an award, one for each bid, with its quantity. Assumes nothing.
use Prim.Native.Nat.{ℕ, suc, ◌≤◌, ◌<◌}
use native.Mathlib.Omega.{arith}
use mathlib.Core.List.{List, [], ◌∷◌, map}
use mathlib.Core.Path.{◌≡◌, refl, sym, ap, ◌∙◌}
use lib.ListN.{length, get_or, get_or-map, get_or-eq_default}
use lib.Seq.{get_or-take}
use Rattle.lists.specs.Padded.{padded}
use Rattle.lists.proofs.Padded.{length_padded, take_count, padded_at, padded_past}
use Rattle.book.specs.Entries.{BidEntries, BookEntries}
use Rattle.sampling.specs.Entries.{TableEntries}
use Rattle.divisions.specs.Award.{Priced}
use Rattle.award.specs.declared.Row.{Row}
use Rattle.award.specs.Award.{no_row, row_of}
use Rattle.without.specs.Without.{total_without}
use Rattle.clearing.specs.Clearing.{rows_from, award_record}
use Rattle.clearing.proofs.Made.{length_rows, row_at_lem}
use Rattle.awardtheorems.specs.Awarded.{rows_of, row_at, awarded}

module _ (table : TableEntries) (b : BookEntries) where
  rows_quantities : (i : ℕ) (bids : List BidEntries) (rs : List ℕ) → length rs ≡ length bids
      → map (λ (row : Row). row.quantity.0) (rows_from table b i bids rs) ≡ rs
  unfolding rows_from row_of
  rows_quantities i [] [] e = refl
  rows_quantities i [] (r ∷ rs) e = absurd (omega arith)
  rows_quantities i (bid ∷ bids) [] e = absurd (omega arith)
  rows_quantities i (bid ∷ bids) (r ∷ rs) e = ap (λ (qs : List ℕ). r ∷ qs) (rows_quantities (suc i) bids rs (omega arith))

  -- what the row at an index sells, whatever the counts
  pub record_quantity : (award : Priced) → length award.quantities ≡ length b.bids → (i : ℕ) → i < 8
      → (row_at (award_record table b award) i).quantity.0 ≡ get_or award.quantities i 0
  unfolding award_record
  record_quantity award as_many i h =
      let sells : Row → ℕ = λ row. row.quantity.0 in
      let listed = rows_from table b 0 b.bids award.quantities in
      ap sells (padded_at 8 no_row listed i h)
      ∙ sym (get_or-map sells listed i no_row)
      ∙ ap (λ (qs : List ℕ). get_or qs i 0) (rows_quantities 0 b.bids award.quantities as_many)

  -- there are eight
  pub record_beyond : (award : Priced) (i : ℕ) → 8 ≤ i → row_at (award_record table b award) i ≡ no_row
  unfolding award_record
  record_beyond award i h =
      let listed = rows_from table b 0 b.bids award.quantities in
      let few : length (padded 8 no_row listed) ≤ i = omega (arith, length_padded 8 no_row listed) in
      get_or-eq_default (padded 8 no_row listed) no_row few

  module _ (few : b.count ≤ 8) (complete : length b.bids ≡ b.count) (award : Priced) (as_many : length award.quantities ≡ length b.bids) where
    abbrev listed : List Row
    listed = rows_from table b 0 b.bids award.quantities

    rows_listed : rows_of (award_record table b award) ≡ listed
    unfolding award_record
    rows_listed = take_count 8 b.count no_row listed (sym complete ∙ sym (length_rows table b 0 b.bids award.quantities (sym as_many))) few

    -- the record says what is sold
    pub record_awarded : awarded (award_record table b award) ≡ award
    unfolding award_record
    record_awarded =
        let sold = ap (map (λ (row : Row). row.quantity.0)) rows_listed ∙ rows_quantities 0 b.bids award.quantities as_many in
        λ i. record { cost = award.cost; blanks = award.blanks; quantities = sold i }

    -- each row is that of its bid
    pub record_row : (none : BidEntries) (i : ℕ) → i < b.count
        → row_at (award_record table b award) i ≡ row_of table (get_or b.bids i none) (get_or award.quantities i 0) (total_without b i)
    unfolding award_record
    record_row none i h =
        let rows = (award_record table b award).rows in
        let bid : i < length b.bids = omega arith in
        sym (get_or-take b.count rows i no_row h)
        ∙ ap (λ (l : List Row). get_or l i no_row) rows_listed
        ∙ row_at_lem table b 0 b.bids award.quantities i none bid (omega arith)
        ∙ ap (λ (n : ℕ). row_of table (get_or b.bids i none) (get_or award.quantities i 0) (total_without b n)) (omega arith)

    -- past the bids, zeros and `none`
    pub record_past : (i : ℕ) → b.count ≤ i → row_at (award_record table b award) i ≡ no_row
    unfolding award_record
    record_past i h =
        let size = length_rows table b 0 b.bids award.quantities (sym as_many) in
        padded_past 8 no_row listed i (omega arith) (omega arith)
