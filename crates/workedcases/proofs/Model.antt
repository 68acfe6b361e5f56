-- Clearing with the search in the place of the listing: it computes, and gives the same, for the search finds the award that is defined by
-- the listing. Assumes nothing.
use Prim.Native.Nat.{ℕ, suc}
use mathlib.Core.List.{List, [], ◌∷◌}
use mathlib.Core.Option.{Option, some, none}
use mathlib.Core.Path.{◌≡◌, refl, ap, ap₂, ◌∙◌}
use Rattle.std.specs.Prelude.{Ok, Err}
use Rattle.lists.specs.All.{All}
use Rattle.lists.specs.Padded.{padded}
use Rattle.lists.proofs.Removed.{all_removed}
use Rattle.refusal.specs.Checks.{when_accepted}
use Rattle.refusal.specs.declared.Rule.TheVariants.{NotCovered}
use Rattle.refusal.specs.Verdict.{Verdict}
use Rattle.refusal.specs.Verdict.{Accepted, Refused}
use Rattle.book.specs.Entries.{BidEntries, BookEntries}
use Rattle.book.specs.Rules.{book_verdict}
use Rattle.book.specs.Accepted.{AcceptedBid}
use Rattle.book.proofs.Accepted.{all_accepted}
use Rattle.sampling.specs.Entries.{TableEntries}
use Rattle.supply.specs.Supply.{supplies_of}
use Rattle.supply.proofs.Accepted.{sound_supplies}
use Rattle.divisions.specs.Award.{Priced, award_of_book}
use Rattle.choices.specs.Search.{searched}
use Rattle.choices.proofs.Finds.{finds}
use Rattle.award.specs.declared.Total.{Total}
use Rattle.award.specs.declared.Row.{Row}
use Rattle.award.specs.Award.{no_row, row_of}
use Rattle.without.specs.Without.{book_without, total_of, total_without}
use Rattle.clearing.specs.declared.Clearing.{Clearing}
use Rattle.clearing.specs.Clearing.{rows_from, award_record, cleared_book, clear_sampled, refused_clearing}

abbrev searched_book : BookEntries → Option Priced
searched_book b = searched b.order (supplies_of b.bids)

abbrev model_rows : TableEntries → BookEntries → ℕ → List BidEntries → List ℕ → List Row
model_rows table b i [] rs = []
model_rows table b i (bid ∷ bids) [] = []
model_rows table b i (bid ∷ bids) (r ∷ rs) = row_of table bid r (total_of (searched_book (book_without i b))) ∷ model_rows table b (suc i) bids rs

abbrev model_cleared : TableEntries → BookEntries → Option Priced → Clearing
model_cleared table b none = refused_clearing (Refused NotCovered 0)
model_cleared table b (some award) = record {
  verdict = Accepted;
  award = record {
    demand = b.order.demand;
    bought = record { 0 = award.blanks };
    total = record { 0 = award.cost };
    count = b.count;
    rows = padded 8 no_row (model_rows table b 0 b.bids award.quantities);
  };
}

abbrev pub model_of : TableEntries → BookEntries → Clearing
model_of table b = when_accepted (book_verdict b) (model_cleared table b (searched_book b)) (refused_clearing (book_verdict b))

-- the search finds the award of a book's bids
found : (b : BookEntries) → All AcceptedBid b.bids → searched_book b ≡ award_of_book b
unfolding award_of_book
found b bids = finds b.order _ (sound_supplies b.bids bids)

module _ (table : TableEntries) (b : BookEntries) (bids : All AcceptedBid b.bids) where
  bids_left : (i : ℕ) → All AcceptedBid (book_without i b).bids
  unfolding book_without
  bids_left i = all_removed AcceptedBid i b.bids bids

  totals : (i : ℕ) → total_of (searched_book (book_without i b)) ≡ total_without b i
  unfolding total_without
  totals i = ap total_of (found (book_without i b) (bids_left i))

  rows : (i : ℕ) (bs : List BidEntries) (rs : List ℕ) → model_rows table b i bs rs ≡ rows_from table b i bs rs
  unfolding rows_from
  rows i [] rs = refl
  rows i (x ∷ bs) [] = refl
  rows i (x ∷ bs) (r ∷ rs) = ap₂ (λ (t : Total) (l : List Row). row_of table x r t ∷ l) (totals i) (rows (suc i) bs rs)

  answers : (o : Option Priced) → model_cleared table b o ≡ cleared_book table b o
  unfolding cleared_book award_record
  answers none = refl
  answers (some award) =
      ap (λ (l : List Row). record {
        verdict = Accepted;
        award = record {
          demand = b.order.demand;
          bought = record { 0 = award.blanks };
          total = record { 0 = award.cost };
          count = b.count;
          rows = padded 8 no_row l;
        };
      }) (rows 0 b.bids award.quantities)

-- a book that is refused by rules 3 to 8 has one answer, and else the search decides
pub model_is : (table : TableEntries) (b : BookEntries) → model_of table b ≡ clear_sampled table b
unfolding clear_sampled
model_is table b = go (book_verdict b) refl
  where
    go : (v : Verdict) → book_verdict b ≡ v → model_of table b ≡ clear_sampled table b
    go (Ok _) e =
        let bids = all_accepted b e in
        rw e (ap (model_cleared table b) (found b bids) ∙ answers table b bids (award_of_book b))
    go (Err refusal) e = rw e
