-- How large the numbers of a text's award can be, and how long its sheet: 600 bytes hold every sheet, and every line of a refusal.
-- Assumes nothing.
use Prim.Native.Nat.{ℕ, suc, ◌+◌, ◌*◌, ◌^◌, ◌≤◌, ◌<◌}
use native.Mathlib.Omega.{arith}
use mathlib.Core.List.{List}
use mathlib.Core.Path.{◌≡◌, sym, subst}
use lib.IntN.{ℤ, pos, negsuc, nat_abs}
use lib.ListN.{length}
use lib.Seq.{get_or-take}
use Rattle.lists.specs.All.{All}
use Rattle.lists.proofs.All.{all_indexed}
use Rattle.lists.proofs.Joined.{joined_short}
use Rattle.lists.proofs.Slices.{take_most}
use Rattle.refusal.specs.declared.Rule.TheVariants.{OutputLength}
use Rattle.refusal.specs.Verdict.{Accepted, Refused}
use Rattle.book.specs.declared.Book.{Book}
use Rattle.book.specs.Entries.{BookEntries, book_entries}
use Rattle.book.proofs.Accepted.{book_accepted}
use Rattle.forms.specs.Digits.{signed_digits}
use Rattle.forms.proofs.Digits.{length_below}
use Rattle.sampling.specs.Entries.{TableEntries}
use Rattle.sampling.specs.Sampling.{printed_table}
use Rattle.tablerules.proofs.Passing.{printed_passes, sample_small}
use Rattle.supply.specs.Sound.{most_blanks}
use Rattle.award.specs.declared.Total.{Total}
use Rattle.award.specs.declared.Total.TheVariants.{Amount, Nothing}
use Rattle.award.specs.declared.Row.{Row}
use Rattle.award.specs.declared.Award.{Award}
use Rattle.award.specs.Award.{no_row}
use Rattle.clearing.specs.Clearing.{clear_sampled}
use Rattle.awardtheorems.specs.Awarded.{rows_of, row_at}
use Rattle.awardtheorems.proofs.Answers.{cleared}
use Rattle.awardtheorems.proofs.Costs.{NotNegative, UpTo, most_total}
use Rattle.awardtheorems.proofs.Amounts.{SmallSamples, TotalUpTo, RowUpTo, demand_up_to, bought_up_to, total_from_zero, rows_up_to}
use Rattle.sheettext.specs.Sheet.{total_text, row_text, sheet_text}
use Rattle.sheettext.proofs.Sizes.{row_size, sheet_size}
use Rattle.tender.specs.FromText.{clear_text_sampled, clear_text, sheet_written, clear_prints}
use Rattle.endtoend.proofs.ClearedText.{the_award, of_records}
use Rattle.endtoend.proofs.Places.{before_output}
use Rattle.endtoend.proofs.LongEnough.{printed_fits, same_verdict, never_10}

-- The parts of a sheet.

amount_short : (k : ℕ) (z : ℤ) → NotNegative z → nat_abs z < 10 ^ suc k → length (signed_digits z) ≤ suc k
unfolding signed_digits
amount_short k (pos n) e h = length_below k n h
amount_short k (negsuc n) e h = let apart : ◌≡◌ {A = ℕ} 0 1 = cc in absurd (omega arith)

total_short : (t : Total) → TotalUpTo most_total t → length (total_text t) ≤ 14
unfolding total_text
total_short (Amount cents) h = amount_short 13 cents.0 h.not_negative (omega (arith, h.size))
total_short Nothing h = omega arith

row_short : (row : Row) → RowUpTo row → length (row_text row) ≤ 66
row_short row h =
    let bidder = length_below 3 row.bidder (omega (arith, h.bidder)) in
    let segment = length_below 0 row.segment (omega (arith, h.segment)) in
    let quantity = length_below 6 row.quantity.0 (omega (arith, h.quantity)) in
    let price = amount_short 12 row.price.0 h.price.not_negative (omega (arith, h.price.size)) in
    let sample = length_below 4 row.sample.0 (omega (arith, h.sample)) in
    let without = total_short row.without h.without in
    omega (arith, row_size row)

-- what holds of each bid's row holds of all of them
pub every_row : (P : Row → Type 0) (a : Award) → ((i : ℕ) → i < a.count → P (row_at a i)) → All P (rows_of a)
every_row P a each = all_indexed P no_row (rows_of a) (λ i h.
    let within : i < a.count = omega (arith, h, (take_most a.count a.rows).0) in
    subst P (sym (get_or-take a.count a.rows i no_row within)) (each i within))

-- the sheet of an award, by a table without large samples: 39 bytes, and 66 for each bid
module _ (table : TableEntries) (small : SmallSamples table) (book : Book) (held : length book.bids ≡ 8)
    (accepted : (clear_sampled table (book_entries book)).verdict ≡ Accepted) where
  abbrev a : Award
  a = (clear_sampled table (book_entries book)).award

  count_is : a.count ≡ book.count
  count_is = (the_award table book held accepted).count

  pub few : a.count ≤ 8
  few = omega (arith, count_is, (book_accepted (book_entries book) (cleared table (book_entries book) accepted).accepted).count_high)

  pub each_up_to : (i : ℕ) → i < a.count → RowUpTo (row_at a i)
  each_up_to i h = rows_up_to table book held accepted small i (omega (arith, count_is))

  pub sheet_bound : length (sheet_text a) ≤ 39 + 66 * book.count
  sheet_bound =
      let demand = length_below 6 a.demand.0 (omega (arith, demand_up_to table book held accepted)) in
      let bought = length_below 6 a.bought.0 (omega (arith, bought_up_to table book held accepted)) in
      let t = total_from_zero table book held accepted in
      let total = amount_short 13 a.total.0 t.not_negative (omega (arith, t.size)) in
      let short = every_row (λ (row : Row). length (row_text row) ≤ 66) a (λ i h. row_short (row_at a i) (each_up_to i h)) in
      let rows = joined_short row_text 66 (rows_of a) short in
      let counted = (take_most a.count a.rows).0 in
      omega (arith, sheet_size a, count_is)

  short_sheet : length (sheet_text a) ≤ 567
  short_sheet = omega (arith, sheet_bound, count_is, few)

module _ (table : TableEntries) (small : SmallSamples table) (t : List ℕ) where
  -- Of a text that is cleared: no amount of its award is negative, and its numbers have these bounds.
  module _ (accepted : (clear_text_sampled table t).verdict ≡ Accepted) where
    abbrev award : Award
    award = (clear_text_sampled table t).award

    pub text_demand_up_to : award.demand.0 ≤ most_blanks
    text_demand_up_to = of_records table t accepted (λ (b : BookEntries) (a : Award). a.demand.0 ≤ most_blanks) (demand_up_to table)

    pub text_bought_up_to : award.bought.0 ≤ 2 * most_blanks
    text_bought_up_to = of_records table t accepted (λ (b : BookEntries) (a : Award). a.bought.0 ≤ 2 * most_blanks) (bought_up_to table)

    pub text_total_up_to : UpTo most_total award.total.0
    text_total_up_to = of_records table t accepted (λ (b : BookEntries) (a : Award). UpTo most_total a.total.0) (total_from_zero table)

    pub text_row_up_to : (i : ℕ) → i < award.count → RowUpTo (row_at award i)
    text_row_up_to =
        of_records table t accepted (λ (b : BookEntries) (a : Award). (i : ℕ) → i < a.count → RowUpTo (row_at a i)) (each_up_to table small)

    pub sheet_fits : length (sheet_text award) ≤ 567
    sheet_fits = of_records table t accepted (λ (b : BookEntries) (a : Award). length (sheet_text a) ≤ 567) (short_sheet table small)

  -- 600 bytes hold the sheet
  pub in_600 : (clear_text_sampled table t).verdict ≡ Accepted → length (sheet_text (clear_text_sampled table t).award) ≤ 600
  in_600 e = omega (arith, sheet_fits e)

pub printed_small : SmallSamples printed_table
printed_small = sample_small printed_table printed_passes

-- 600 bytes hold whatever is printed, so that rule 10 never arises with them: of a text, by the printed table
module _ (t : List ℕ) where
  pub prints_fit : length (clear_prints t) ≤ 600
  prints_fit = printed_fits sheet_text 600 (clear_text t) (before_output t printed_table) (in_600 printed_table printed_small t) (omega arith)

  pub never_short : (out : List ℕ) → 600 ≤ length out → (place : ℕ) → (sheet_written t (length out)).verdict ≡ Refused OutputLength place → ⊥
  never_short = never_10 sheet_text 600 (clear_text t) (before_output t printed_table) (in_600 printed_table printed_small t)

  pub sheet_verdict : (out : List ℕ) → 600 ≤ length out → (sheet_written t (length out)).verdict ≡ (clear_text t).verdict
  sheet_verdict = same_verdict sheet_text 600 (clear_text t) (before_output t printed_table) (in_600 printed_table printed_small t)
