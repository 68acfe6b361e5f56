-- The rows of a cleared book's award: as many as it counts, and past them zeros and `none`. Assumes nothing.
use Prim.Native.Nat.{◌≤◌}
use native.Mathlib.Omega.{arith}
use mathlib.Core.List.{List}
use mathlib.Core.Path.{◌≡◌, sym, ap, ◌∙◌, subst}
use lib.ListN.{length, length-map}
use lib.Seq.{length-take-le}
use Rattle.lists.specs.Padded.{padded}
use Rattle.lists.proofs.Padded.{length_padded, take_count}
use Rattle.refusal.specs.Verdict.{Accepted}
use Rattle.book.specs.declared.Book.{Book}
use Rattle.book.specs.Entries.{BookEntries, book_entries}
use Rattle.sampling.specs.Entries.{TableEntries}
use Rattle.supply.specs.Supply.{supplies_of}
use Rattle.divisions.proofs.Award.{as_many}
use Rattle.award.specs.declared.Row.{Row}
use Rattle.award.specs.Award.{no_row}
use Rattle.clearing.specs.declared.Clearing.{Clearing}
use Rattle.clearing.specs.Clearing.{rows_from, award_record, clear_sampled}
use Rattle.clearing.proofs.Made.{length_rows}
use Rattle.awardtheorems.proofs.Answers.{Cleared, cleared}
use Rattle.awardtheorems.proofs.Cleared.{award_of_book_lem}
use Rattle.awardtheorems.proofs.Counts.{few_bids, bids_counted}
use Rattle.pagetext.proofs.ReadBack.{Complete}

module _ (table : TableEntries) (book : Book) (held : length book.bids ≡ 8) (accepted : (clear_sampled table (book_entries book)).verdict ≡ Accepted) where
  abbrev b : BookEntries
  b = book_entries book

  c : Cleared table b
  c = cleared table b accepted

  few : b.count ≤ 8
  few = few_bids b c.accepted

  -- a row for each bid
  abbrev listed : List Row
  listed = rows_from table b 0 b.bids c.award.quantities

  as_listed : length listed ≡ b.count
  as_listed =
      let sold = (award_of_book_lem b c.award c.is_award).division.allocation in
      let many = as_many (supplies_of b.bids) c.award.quantities sold ∙ length-map b.bids _ in
      length_rows table b 0 b.bids c.award.quantities (sym many) ∙ bids_counted book held c.accepted

  made_complete : Complete (award_record table b c.award)
  unfolding award_record
  made_complete = record {
    many = length-take-le b.count (padded 8 no_row listed) (omega (arith, few, length_padded 8 no_row listed));
    past = ap (padded 8 no_row) (sym (take_count 8 b.count no_row listed (sym as_listed) few));
  }

  pub complete : Complete (clear_sampled table b).award
  complete = subst (λ (x : Clearing). Complete x.award) (sym c.answer) made_complete
