-- What clearing gives for every book: document 01, sections "Price and allocation", "The sheet" and "What is turned down".
use Rattle.std.specs.Prelude.{ℕ, suc, List, [], ◌∷◌, ◌≡◌, Result, Ok, Err}
use Rattle.std.proofs.Math.Option.{Option, some, none}
use Rattle.lists.specs.Padded.{padded}
use Rattle.refusal.specs.Checks.{when_accepted}
use Rattle.refusal.specs.declared.Rule.TheVariants.{NotCovered}
use Rattle.refusal.specs.declared.Refusal.{Refusal}
use Rattle.refusal.specs.Verdict.{Verdict, Accepted, Refused}
use Rattle.book.specs.declared.Book.{Book}
use Rattle.book.specs.Entries.{BidEntries, BookEntries, book_entries}
use Rattle.book.specs.Rules.{book_verdict}
use Rattle.sampling.specs.Entries.{TableEntries}
use Rattle.sampling.specs.Sampling.{printed_table}
use Rattle.sampling.specs.Rules.{table_verdict}
use Rattle.divisions.specs.Award.{Priced, award_of_book}
use Rattle.comparison.specs.declared.PricedDivision.{PricedDivision}
use Rattle.comparison.specs.Records.{division_in}
use Rattle.award.specs.declared.Row.{Row}
use Rattle.award.specs.declared.Award.{Award}
use Rattle.award.specs.Award.{no_row, no_award, row_of}
use Rattle.without.specs.Without.{total_without}
use Rattle.clearing.specs.declared.Clearing.{Clearing}

-- a row for each bid from index i on, with its quantity
unfoldable pub rows_from : TableEntries → BookEntries → ℕ → List BidEntries → List ℕ → List Row
rows_from table b i [] rs = []
rows_from table b i (bid ∷ bids) [] = []
rows_from table b i (bid ∷ bids) (r ∷ rs) = row_of table bid r (total_without b i) ∷ rows_from table b (suc i) bids rs

-- demand, what is bought, total price, and the rows, in book order; rows past the bids hold zeros and `none`
unfoldable pub award_record : TableEntries → BookEntries → Priced → Award
award_record table b award = record {
  demand = b.order.demand;
  bought = record { 0 = award.blanks };
  total = record { 0 = award.cost };
  count = b.count;
  rows = padded 8 no_row (rows_from table b 0 b.bids award.quantities);
}

abbrev pub refused_clearing : Verdict → Clearing
refused_clearing verdict = record { verdict = verdict; award = no_award }

-- an award, or the refusal with none beside it
abbrev pub clearing_told : Result Award Refusal → Clearing
clearing_told (Ok award) = record { verdict = Accepted; award = award }
clearing_told (Err refusal) = refused_clearing (Err refusal)

-- of a book that rules 3 to 8 accept: 9 with place 0 where there is no division
unfoldable pub cleared_book : TableEntries → BookEntries → Option Priced → Clearing
cleared_book table b none = refused_clearing (Refused NotCovered 0)
cleared_book table b (some award) = record { verdict = Accepted; award = award_record table b award }

-- of every book, sampled by a table
unfoldable pub clear_sampled : TableEntries → BookEntries → Clearing
clear_sampled table b = when_accepted (book_verdict b) (cleared_book table b (award_of_book b)) (refused_clearing (book_verdict b))

-- sampled by the printed table
abbrev pub clear_of : BookEntries → Clearing
clear_of = clear_sampled printed_table

-- of every table and every book: the table's refusals come before all of the book's
unfoldable pub clear_by_table : TableEntries → BookEntries → Clearing
clear_by_table table b = when_accepted (table_verdict table) (clear_sampled table b) (refused_clearing (table_verdict table))

-- what `rows` asks: an accepted book, and its award
pub record BookAward (book : Book) (award : PricedDivision) : Type 0 where
  pub accepted : book_verdict (book_entries book) ≡ Accepted
  pub is_award : award_of_book (book_entries book) ≡ some (division_in book.count award)
