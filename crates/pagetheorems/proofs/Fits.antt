-- No column of the page of a cleared book is too narrow, and no amount on it is negative. Assumes nothing.
use Prim.Native.Nat.{ℕ, ◌^◌, ◌≤◌, ◌<◌}
use native.Mathlib.Omega.{arith}
use mathlib.Core.Path.{◌≡◌}
use lib.IntN.{ℤ, nat_abs}
use lib.ListN.{length}
use Rattle.lists.specs.All.{All}
use Rattle.lists.proofs.All.{all_from}
use Rattle.refusal.specs.Verdict.{Accepted}
use Rattle.book.specs.declared.Book.{Book}
use Rattle.book.specs.Entries.{book_entries}
use Rattle.forms.specs.Money.{money_text}
use Rattle.forms.proofs.Digits.{length_below}
use Rattle.forms.proofs.Money.{money_below}
use Rattle.sampling.specs.Entries.{TableEntries}
use Rattle.supply.proofs.Accepted.{most_cents}
use Rattle.award.specs.declared.Total.{Total}
use Rattle.award.specs.declared.Total.TheVariants.{Amount, Nothing}
use Rattle.award.specs.declared.Row.{Row}
use Rattle.award.specs.declared.Award.{Award}
use Rattle.clearing.specs.Clearing.{clear_sampled}
use Rattle.awardtheorems.specs.Awarded.{rows_of}
use Rattle.awardtheorems.proofs.Costs.{UpTo, most_total}
use Rattle.awardtheorems.proofs.Amounts.{SmallSamples, TotalUpTo, RowUpTo, demand_up_to, bought_up_to, total_from_zero}
use Rattle.pagetext.specs.Page.{page_total}
use Rattle.pagetext.specs.Fits.{RowFits, PageFits}
use Rattle.pagetext.proofs.Amounts.{TotalFromZero}
use Rattle.pagetext.proofs.ReadBack.{RowFromZero, AwardFromZero}
use Rattle.endtoend.proofs.Fits.{every_row, each_up_to}

-- an amount below 10 to the power 17 has at most 18 bytes
amount_short : (most : ℕ) (z : ℤ) → UpTo most z → most < 10 ^ 17 → length (money_text z) ≤ 18
amount_short most z h low = money_below 14 (nat_abs z) z h.not_negative (omega (arith, h.size))

total_short : (t : Total) → TotalUpTo most_total t → length (page_total t) ≤ 18
unfolding page_total
total_short (Amount cents) h = amount_short most_total cents.0 h (omega arith)
total_short Nothing h = omega arith

without_from_zero : (t : Total) → TotalUpTo most_total t → TotalFromZero t
without_from_zero (Amount cents) h = h.not_negative
without_from_zero Nothing h = tt

row_fits : (row : Row) → RowUpTo row → RowFits row
row_fits row h =
    let bidder = length_below 5 row.bidder (omega (arith, h.bidder)) in
    let segment = length_below 3 row.segment (omega (arith, h.segment)) in
    let quantity = length_below 9 row.quantity.0 (omega (arith, h.quantity)) in
    let price = amount_short most_cents row.price.0 h.price (omega arith) in
    let sample = length_below 5 row.sample.0 (omega (arith, h.sample)) in
    (bidder, (segment, (quantity, (omega arith, (sample, (total_short row.without h.without, tt))))))

row_from_zero : (row : Row) → RowUpTo row → RowFromZero row
row_from_zero row h = record { price = h.price.not_negative; without = without_from_zero row.without h.without }

module _ (table : TableEntries) (small : SmallSamples table) (book : Book) (held : length book.bids ≡ 8)
    (accepted : (clear_sampled table (book_entries book)).verdict ≡ Accepted) where
  abbrev a : Award
  a = (clear_sampled table (book_entries book)).award

  up_to_lem : All RowUpTo (rows_of a)
  up_to_lem = every_row RowUpTo a (each_up_to table small book held accepted)

  pub page_fits : PageFits a
  page_fits =
      let demand = length_below 19 a.demand.0 (omega (arith, demand_up_to table book held accepted)) in
      let bought = length_below 19 a.bought.0 (omega (arith, bought_up_to table book held accepted)) in
      let total = amount_short most_total a.total.0 (total_from_zero table book held accepted) (omega arith) in
      record { first = (demand, (bought, (omega arith, tt))); rows = all_from RowUpTo RowFits row_fits (rows_of a) up_to_lem }

  pub none_negative : AwardFromZero a
  none_negative = record {
    total = (total_from_zero table book held accepted).not_negative;
    rows = all_from RowUpTo RowFromZero row_from_zero (rows_of a) up_to_lem;
  }
