-- What the three figures of an accepted book tell: document 02, change 6.
use Rattle.std.specs.Prelude.{ℕ, ◌≤◌, ◌<◌, ◌≡◌, length}
use Rattle.refusal.specs.declared.Rule.TheVariants.{OutputLength}
use Rattle.refusal.specs.Verdict.{Accepted, Refused}
use Rattle.book.specs.declared.Book.{Book}
use Rattle.book.specs.Entries.{book_entries}
use Rattle.output.specs.Writing.{not_written, all_written}
use Rattle.bookwriter.specs.Writing.{write_of}
use Rattle.sampling.specs.Entries.{TableEntries}
use Rattle.sampling.specs.Rules.{table_verdict}
use Rattle.supply.specs.Supply.{supplies_of}
use Rattle.choices.specs.Listed.{all_choices}
use Rattle.clearing.specs.Clearing.{clear_sampled}
use Rattle.sizes.specs.declared.BookSizes.{BookSizes}
use Rattle.sheettext.specs.Sheet.{sheet_text}

pub record TheSizes (book : Book) (z : BookSizes) : Type 0 where
  -- the bytes are those of the text that is written: an output of so many gets all of it, and a shorter one refusal 10 with this number
  pub written : (size : ℕ) → z.bytes ≤ size → write_of book size ≡ all_written z.bytes
  pub needed : (size : ℕ) → size < z.bytes → write_of book size ≡ not_written (Refused OutputLength z.bytes)
  -- which are at least 37 and at most 2,201
  pub least : 37 ≤ z.bytes
  pub most : z.bytes ≤ 2201
  -- there are as many choices of a segment for each bidder as the model of the search has
  pub choices : z.choices ≡ length (all_choices (supplies_of (book_entries book).bids))
  -- the sheet, if there is one, is no longer, with any sampling table that passes
  pub sheet : (table : TableEntries) → table_verdict table ≡ Accepted → (clear_sampled table (book_entries book)).verdict ≡ Accepted
      → length (sheet_text (clear_sampled table (book_entries book)).award) ≤ z.sheet
