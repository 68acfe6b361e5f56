-- How many bids an accepted record has, and how many rows the award of an accepted answer: at most eight. That the record's array of
-- bids has its eight places is what the language guarantees (`held`). Assumes nothing.
use Prim.Native.Nat.{◌≤◌}
use native.Mathlib.Omega.{arith}
use mathlib.Core.Path.{◌≡◌, ap}
use lib.ListN.{length}
use Rattle.refusal.specs.Verdict.{Accepted}
use Rattle.book.specs.declared.Book.{Book}
use Rattle.book.specs.Entries.{BookEntries, book_entries}
use Rattle.book.specs.Rules.{book_verdict}
use Rattle.book.proofs.Bids.{length_entries}
use Rattle.book.proofs.Accepted.{book_accepted}
use Rattle.sampling.specs.Entries.{TableEntries}
use Rattle.clearing.specs.declared.Clearing.{Clearing}
use Rattle.clearing.specs.Clearing.{award_record, clear_sampled}
use Rattle.awardtheorems.proofs.Answers.{cleared}

module _ (b : BookEntries) where
  pub few_bids : book_verdict b ≡ Accepted → b.count ≤ 8
  few_bids e = (book_accepted b e).count_high

  pub few_rows : (table : TableEntries) → (clear_sampled table b).verdict ≡ Accepted → (clear_sampled table b).award.count ≤ 8
  unfolding award_record
  few_rows table h =
      let a = cleared table b h in
      let count : (clear_sampled table b).award.count ≡ b.count = ap (λ (c : Clearing). c.award.count) a.answer in
      omega (arith, few_bids a.accepted)

module _ (book : Book) (held : length book.bids ≡ 8) (accepted : book_verdict (book_entries book) ≡ Accepted) where
  -- the record has a place for each of its bids
  pub bids_within : book.count ≤ length book.bids
  bids_within = omega (arith, few_bids (book_entries book) accepted)

  -- and the list of its bids has as many as it counts
  pub bids_counted : length (book_entries book).bids ≡ book.count
  bids_counted = length_entries book.bids book.count bids_within
