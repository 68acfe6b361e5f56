-- The numbers of an award: no price is negative, and how large each number can be. Assumes nothing.
use Prim.Native.Nat.{ℕ, zero, suc, ◌*◌, ◌≤◌, ◌<◌}
use native.Mathlib.Nat.{le_of_suc-le-suc, not-suc-le-zero}
use native.Mathlib.Omega.{arith}
use mathlib.Core.Bool.{true}
use mathlib.Core.List.{List, [], ◌∷◌}
use mathlib.Core.Option.{Option, some, none}
use mathlib.Core.Path.{◌≡◌, refl, sym, subst}
use lib.ListN.{length, get_or}
use Rattle.lists.specs.All.{All}
use Rattle.lists.proofs.All.{all_at}
use Rattle.lists.proofs.Slices.{take_most}
use Rattle.lists.proofs.Removed.{length_removed, all_removed}
use Rattle.refusal.specs.Verdict.{Accepted}
use Rattle.book.specs.declared.Book.{Book}
use Rattle.book.specs.Entries.{BidEntries, BookEntries, bid_entries, book_entries}
use Rattle.book.specs.Rules.{book_verdict}
use Rattle.book.specs.Accepted.{AcceptedBid}
use Rattle.book.proofs.Records.{no_bid}
use Rattle.book.proofs.Bids.{entry_at}
use Rattle.book.proofs.Accepted.{book_accepted, all_accepted, accepted_at}
use Rattle.sampling.specs.Entries.{TableEntries}
use Rattle.sampling.specs.Sampling.{sample_of}
use Rattle.supply.specs.Supply.{supply_of, supplies_of, offers}
use Rattle.supply.specs.Sound.{most_blanks}
use Rattle.supply.proofs.Supply.{number_few}
use Rattle.supply.proofs.Orders.{meets_high}
use Rattle.supply.proofs.Accepted.{most_cents, supply_small}
use Rattle.divisions.specs.Division.{Allocation}
use Rattle.divisions.specs.Award.{Priced, award_of_book}
use Rattle.award.specs.declared.Total.{Total}
use Rattle.award.specs.declared.Total.TheVariants.{Amount, Nothing}
use Rattle.award.specs.declared.Row.{Row}
use Rattle.award.specs.Award.{row_of}
use Rattle.without.specs.Without.{book_without, total_of, total_without}
use Rattle.clearing.specs.Clearing.{award_record, clear_sampled}
use Rattle.awardtheorems.specs.Awarded.{row_at, awarded}
use Rattle.awardtheorems.proofs.Answers.{cleared}
use Rattle.awardtheorems.proofs.Counts.{few_bids, bids_within, bids_counted}
use Rattle.awardtheorems.proofs.Costs.{UpTo, price_up_to, most_total, award_up_to}
use Rattle.awardtheorems.proofs.Cleared.{award_of_book_lem, no_other_cheaper, bought_is, row_is}

-- what a bidder of an allocation is given, it offers
offered_at : (bids : List BidEntries) (rs : List ℕ) (d : BidEntries) → Allocation (supplies_of bids) rs → (i : ℕ) → i < length bids
    → offers (supply_of (get_or bids i d)) (get_or rs i 0) ≡ true
offered_at [] rs d a i h = absurd (not-suc-le-zero h)
offered_at (b ∷ bs) [] d a i h = absurd a
offered_at (b ∷ bs) (r ∷ rs) d a zero h = a.0
offered_at (b ∷ bs) (r ∷ rs) d a (suc i) h = offered_at bs rs d a.1 i (le_of_suc-le-suc h)

-- a total without a bidder, where it is an amount
abbrev pub TotalUpTo : ℕ → Total → Type 0
TotalUpTo most (Amount cents) = UpTo most cents.0
TotalUpTo most Nothing = Unit {0}

-- a table that samples at most 99,999 blanks of any quantity
abbrev pub SmallSamples : TableEntries → Type 0
SmallSamples table = (q : ℕ) → sample_of table q ≤ 99999

-- the numbers of a row: no amount is negative
pub record RowUpTo (row : Row) : Type 0 where
  pub bidder : row.bidder ≤ 9999
  pub segment : row.segment ≤ 6
  pub quantity : row.quantity.0 ≤ most_blanks
  pub price : UpTo most_cents row.price.0
  pub sample : row.sample.0 ≤ 99999
  pub without : TotalUpTo most_total row.without

row_up_to : (table : TableEntries) → SmallSamples table → (b : BidEntries) (r : ℕ) (t : Total) → AcceptedBid b → length b.segments ≤ 6 → offers (supply_of b) r ≡ true → TotalUpTo most_total t
    → RowUpTo (row_of table b r t)
unfolding row_of
row_up_to table small b r t a few o total = record {
  bidder = a.bidder_high;
  segment = omega (arith, number_few b r);
  quantity = (supply_small b a r o).quantity;
  price = price_up_to b r a o;
  sample = small r;
  without = total;
}

-- the total of the bids left
total_up_to : (b : BookEntries) → All AcceptedBid b.bids → length b.bids ≤ 8 → TotalUpTo most_total (total_of (award_of_book b))
total_up_to b bids few = go (award_of_book b) refl
  where
    go : (o : Option Priced) → award_of_book b ≡ o → TotalUpTo most_total (total_of o)
    go none e = tt
    go (some award) e = award_up_to b bids few award (award_of_book_lem b award e)

module _ (b : BookEntries) (bids : All AcceptedBid b.bids) (few : length b.bids ≤ 8) where
  without_up_to : (i : ℕ) → TotalUpTo most_total (total_without b i)
  unfolding total_without book_without
  without_up_to i = total_up_to (book_without i b) (all_removed AcceptedBid i b.bids bids) (omega (arith, length_removed i b.bids))

module _ (table : TableEntries) (book : Book) (held : length book.bids ≡ 8) (accepted : (clear_sampled table (book_entries book)).verdict ≡ Accepted) where
  abbrev b : BookEntries
  b = book_entries book

  is_accepted : book_verdict b ≡ Accepted
  is_accepted = (cleared table b accepted).accepted

  few : length b.bids ≤ 8
  few = omega (arith, few_bids b is_accepted, bids_counted book held is_accepted)

  bids : All AcceptedBid b.bids
  bids = all_accepted b is_accepted

  -- the demand, what is bought, the total and every row
  pub demand_up_to : (clear_sampled table b).award.demand.0 ≤ most_blanks
  unfolding award_record
  demand_up_to = rw (cleared table b accepted).answer (book_accepted b is_accepted).demand_high

  pub bought_up_to : (clear_sampled table b).award.bought.0 ≤ 2 * most_blanks
  bought_up_to =
      let sold = meets_high b.order _ (no_other_cheaper table book held accepted).division.sum in
      omega (arith, bought_is table book held accepted, sold, (book_accepted b is_accepted).demand_high, (book_accepted b is_accepted).allowance_high)

  pub total_from_zero : UpTo most_total (clear_sampled table b).award.total.0
  total_from_zero = award_up_to b bids few (awarded (clear_sampled table b).award) (no_other_cheaper table book held accepted)

  segments_few : (i : ℕ) → i < b.count → length (get_or b.bids i (bid_entries no_bid)).segments ≤ 6
  segments_few i h =
      let within = bids_within book held is_accepted in
      let bid = get_or book.bids i no_bid in
      let a : AcceptedBid (bid_entries bid) = accepted_at book.bids book.count within bids i h in
      let short = (take_most bid.count bid.segments).0 in
      rw (entry_at book.bids book.count within i h) (omega (arith, a.count_high, short))

  pub rows_up_to : SmallSamples table → (i : ℕ) → i < b.count → RowUpTo (row_at (clear_sampled table b).award i)
  rows_up_to small i h =
      let bid : BidEntries = get_or b.bids i (bid_entries no_bid) in
      let within : i < length b.bids = omega (arith, bids_counted book held is_accepted) in
      let quantities = (awarded (clear_sampled table b).award).quantities in
      let offered = offered_at b.bids quantities (bid_entries no_bid) (no_other_cheaper table book held accepted).division.allocation i within in
      let row =
      row_up_to table small bid (get_or quantities i 0) (total_without b i) (all_at AcceptedBid (bid_entries no_bid) b.bids bids i within) (segments_few i h) offered
      (without_up_to b bids few i) in
      subst RowUpTo (sym (row_is table book held accepted i h)) row
