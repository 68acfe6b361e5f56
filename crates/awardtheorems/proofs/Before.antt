-- With allowance 0 a book is cleared as before, to the total without each bidder, and not covered exactly where it was not. Assumes nothing.
use Prim.Native.Nat.{ℕ, ◌<◌}
use mathlib.Core.List.{List}
use mathlib.Core.Logic.{◌↔◌}
use mathlib.Core.Path.{◌≡◌, refl}
use lib.ListN.{length}
use Rattle.refusal.specs.declared.Rule.TheVariants.{NotCovered}
use Rattle.refusal.specs.Verdict.{Accepted, Refused}
use Rattle.book.specs.declared.Book.{Book}
use Rattle.book.specs.Entries.{BookEntries, book_entries}
use Rattle.book.specs.Rules.{book_verdict}
use Rattle.sampling.specs.Entries.{TableEntries}
use Rattle.supply.specs.Supply.{supplies_of}
use Rattle.divisions.specs.Award.{Priced}
use Rattle.divisions.specs.Before.{AsBefore}
use Rattle.divisions.proofs.Award.{only_award}
use Rattle.divisions.proofs.Before.{as_before}
use Rattle.award.specs.declared.Total.{Total}
use Rattle.award.specs.declared.Total.TheVariants.{Amount, Nothing}
use Rattle.without.specs.Without.{book_without}
use Rattle.clearing.specs.Clearing.{clear_sampled}
use Rattle.awardtheorems.specs.OfBook.{IsAwardOf}
use Rattle.awardtheorems.specs.Awarded.{row_at}
use Rattle.awardtheorems.specs.Before.{DivisionOfBefore, IsAwardOfBefore, TotalOfBefore, ClearedBefore}
use Rattle.awardtheorems.proofs.Cleared.{not_covered_iff, no_other_cheaper, bought_exactly, none_without_iff, amount_without}

module _ (b : BookEntries) (exact : b.order.allowance.0 ≡ 0) where
  before : AsBefore b.order (supplies_of b.bids)
  before = as_before b.order (supplies_of b.bids) exact

  pub award_before : (award : Priced) → IsAwardOf b award → IsAwardOfBefore b award
  award_before award a = ((before.award award).0 (only_award b.order (supplies_of b.bids) award a)).0

  pub not_covered_before : (table : TableEntries) → book_verdict b ≡ Accepted
      → ((clear_sampled table b).verdict ≡ Refused NotCovered 0) ↔ ((rs : List ℕ) → DivisionOfBefore b rs → ⊥)
  not_covered_before table accepted =
      let (to, from) = not_covered_iff b table accepted in
      (λ h rs d. to h rs ((before.divisions rs).1 d), λ f. from (λ rs d. f rs ((before.divisions rs).0 d)))

module _ (table : TableEntries) (book : Book) (held : length book.bids ≡ 8) where
  abbrev b : BookEntries
  b = book_entries book

  module _ (accepted : (clear_sampled table b).verdict ≡ Accepted) (exact : b.order.allowance.0 ≡ 0) where
    without_before : (i : ℕ) → i < b.count → (t : Total) → (row_at (clear_sampled table b).award i).without ≡ t → TotalOfBefore (book_without i b) t
    unfolding book_without
    without_before i h Nothing e = λ rs d. (none_without_iff table book held accepted i h).0 e rs (((before (book_without i b) exact).divisions rs).1 d)
    without_before i h (Amount cents) e =
        let (award, is_award, cost) = amount_without table book held accepted i h cents.0 e in
        (award, award_before (book_without i b) exact award is_award, cost)

    pub cleared_before : ClearedBefore b (clear_sampled table b).award
    cleared_before = record {
      bought = bought_exactly table book held accepted exact;
      award = award_before b exact _ (no_other_cheaper table book held accepted);
      without = λ i h. without_before i h _ refl;
    }
