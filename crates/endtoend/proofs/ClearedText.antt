-- A text that is cleared: it is the text of an accepted book, and its answer is the award of demand 3. Assumes nothing.
use Prim.Native.Nat.{ℕ, ◌<◌}
use mathlib.Core.List.{List}
use mathlib.Core.Option.{Option, some, none}
use mathlib.Core.Path.{◌≡◌, refl, sym, ap, ◌∙◌, subst}
use lib.ListN.{length, get_or}
use Rattle.std.specs.Prelude.{Ok, Err}
use Rattle.refusal.specs.Verdict.{Verdict}
use Rattle.refusal.specs.Verdict.{Accepted}
use Rattle.refusal.proofs.Firsts.{refused_not}
use Rattle.book.specs.declared.Book.{Book}
use Rattle.book.specs.Rules.{book_verdict}
use Rattle.book.specs.Entries.{BookEntries, book_entries}
use Rattle.bookreader.specs.Reading.{read_of}
use Rattle.sampling.specs.Entries.{TableEntries}
use Rattle.roundtrip.proofs.Reading.{accepted_as}
use Rattle.roundtrip.proofs.Back.{text_read, zeros_past, book_accepted, arrays_read}
use Rattle.divisions.specs.Award.{Priced, award_of_book}
use Rattle.award.specs.declared.Award.{Award}
use Rattle.award.specs.declared.Row.{Row}
use Rattle.award.specs.Award.{row_of}
use Rattle.without.specs.Without.{book_without, total_of}
use Rattle.clearing.specs.declared.Clearing.{Clearing}
use Rattle.clearing.specs.Clearing.{award_record, clear_sampled}
use Rattle.awardtheorems.specs.Awarded.{row_at, awarded}
use Rattle.awardtheorems.proofs.Answers.{cleared}
use Rattle.awardtheorems.proofs.Cleared.{award_of_book_lem, no_award_of_book, no_other_cheaper, bought_is, one_inside, row_is, without_is}
use Rattle.bookanswers.specs.BookAnswers.{book_of}
use Rattle.tender.specs.FromText.{clear_text_sampled}
use Rattle.endtoend.specs.TheAward.{TotalOf, bid_at, TheAward}
use Rattle.endtoend.specs.Outcome.{AcceptedText}

-- what clearing answers for an accepted record is the award of demand 3

total_of_lem : (b : BookEntries) → TotalOf b (total_of (award_of_book b))
total_of_lem b = go (award_of_book b) refl
  where
    go : (o : Option Priced) → award_of_book b ≡ o → TotalOf b (total_of o)
    go none e = (no_award_of_book b).0 e
    go (some award) e = (award, award_of_book_lem b award e, refl)

module _ (table : TableEntries) (book : Book) (held : length book.bids ≡ 8) (accepted : (clear_sampled table (book_entries book)).verdict ≡ Accepted) where
  abbrev b : BookEntries
  b = book_entries book

  abbrev a : Award
  a = (clear_sampled table b).award

  -- its first line, and each row with the total that it shows
  first_line : (a.demand.0 ≡ b.order.demand.0) × (a.count ≡ b.count)
  unfolding award_record
  first_line =
      let e = (cleared table b accepted).answer in
      (ap (λ (c : Clearing). c.award.demand.0) e, ap (λ (c : Clearing). c.award.count) e)

  own_row : (i : ℕ) → i < b.count → row_at a i ≡ row_of table (bid_at b i) (get_or (awarded a).quantities i 0) (row_at a i).without
  unfolding row_of
  own_row i h =
      let e = row_is table book held accepted i h in
      e ∙ ap (row_of table (bid_at b i) (get_or (awarded a).quantities i 0)) (sym (ap (λ (row : Row). row.without) e))

  pub the_award : TheAward table b a
  the_award = record {
    demand = first_line.0;
    bought = bought_is table book held accepted;
    count = first_line.1;
    best = no_other_cheaper table book held accepted;
    one_inside = one_inside table book held accepted;
    rows = own_row;
    without = λ i h. subst (TotalOf (book_without i b)) (sym (without_is table book held accepted i h)) (total_of_lem (book_without i b));
  }

-- from a text
module _ (t : List ℕ) (accepted : (read_of t).verdict ≡ Accepted) where
  pub cleared_book_lem : (table : TableEntries) → clear_text_sampled table t ≡ clear_sampled table (book_of t)
  unfolding clear_text_sampled
  cleared_book_lem table = rw accepted

  pub accepted_text : AcceptedText t (book_of t)
  accepted_text = record {
    says = record { short = (accepted_as t accepted).1.short; text = text_read t accepted };
    accepted = ap (λ (r : Book). book_verdict (book_entries r)) (sym (zeros_past t accepted)) ∙ book_accepted t accepted;
  }

-- where the answer is accepted the text was, and the answer is its award
module _ (table : TableEntries) (t : List ℕ) (accepted : (clear_text_sampled table t).verdict ≡ Accepted) where
  pub was_read : (read_of t).verdict ≡ Accepted
  unfolding clear_text_sampled
  was_read = go (read_of t).verdict refl
    where
      go : (v : Verdict) → (read_of t).verdict ≡ v → (read_of t).verdict ≡ Accepted
      go (Ok _) e = e
      go (Err refusal) e = refused_not (rw e at accepted)

  record_cleared : (clear_sampled table (book_of t)).verdict ≡ Accepted
  record_cleared = ap (λ (c : Clearing). c.verdict) (sym (cleared_book_lem t was_read table)) ∙ accepted

  -- what holds of every record that is cleared and of its award holds of the text's
  pub of_records : (P : BookEntries → Award → Type 0)
      → ((book : Book) → length book.bids ≡ 8 → (clear_sampled table (book_entries book)).verdict ≡ Accepted
      → P (book_entries book) (clear_sampled table (book_entries book)).award)
      → P (book_of t) (clear_text_sampled table t).award
  of_records P h =
      subst (λ (c : Clearing). P (book_of t) c.award) (sym (cleared_book_lem t was_read table))
      (h (read_of t).book (arrays_read t was_read).bids record_cleared)

  pub its_award : TheAward table (book_of t) (clear_text_sampled table t).award
  its_award = of_records (TheAward table) (the_award table)
