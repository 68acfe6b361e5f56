-- On every sheet no total without a bidder is below the award's, since the others could sell as much beside it. That the record's array of
-- bids has its eight places is what the language guarantees (`held`). Assumes nothing.
use Prim.Native.Nat.{ℕ, ◌<◌}
use native.Mathlib.Omega.{arith}
use mathlib.Core.List.{List}
use mathlib.Core.Path.{◌≡◌, subst}
use lib.IntN.{ℤ}
use lib.ListN.{length}
use lib.Signed.{◌≤ℤ◌}
use Rattle.refusal.specs.Verdict.{Accepted}
use Rattle.book.specs.declared.Book.{Book}
use Rattle.book.specs.Entries.{book_entries}
use Rattle.sampling.specs.Entries.{TableEntries}
use Rattle.supply.specs.Supply.{supplies_of}
use Rattle.divisions.proofs.Dominance.{dominance}
use Rattle.pricechanges.proofs.Strike.{strike_no_dearer}
use Rattle.without.specs.Without.{book_without}
use Rattle.clearing.specs.Clearing.{clear_sampled}
use Rattle.awardtheorems.specs.Awarded.{awarded}
use Rattle.awardtheorems.proofs.Answers.{cleared}
use Rattle.awardtheorems.proofs.Counts.{bids_counted}
use Rattle.awardtheorems.proofs.Cleared.{no_other_cheaper, amount_without}
use Rattle.bookanswers.specs.BookAnswers.{book_of}
use Rattle.tender.specs.FromText.{clear_text_sampled}
use Rattle.endtoend.proofs.ClearedText.{of_records}
use Rattle.pricetheorems.specs.Told.{NoLessWithout}

module _ (table : TableEntries) where
  pub no_less_without : (book : Book) → length book.bids ≡ 8 → (clear_sampled table (book_entries book)).verdict ≡ Accepted
      → NoLessWithout (book_entries book) (clear_sampled table (book_entries book)).award
  unfolding book_without
  no_less_without book held covered i h cents e =
      let b = book_entries book in
      let best = no_other_cheaper table book held covered in
      let (award, is_award, cost) = amount_without table book held covered i h cents.0 e in
      let bid : i < length b.bids = omega (arith, bids_counted book held (cleared table b covered).accepted) in
      subst (λ (z : ℤ). (clear_sampled table b).award.total.0 ≤ℤ z) cost
      (dominance b.order (supplies_of b.bids) b.order (supplies_of (book_without i b).bids) (strike_no_dearer b.order b.bids i bid)
      (awarded (clear_sampled table b).award) award best is_award)

  pub text_no_less_without : (t : List ℕ) → (clear_text_sampled table t).verdict ≡ Accepted → NoLessWithout (book_of t) (clear_text_sampled table t).award
  text_no_less_without t covered = of_records table t covered NoLessWithout no_less_without
