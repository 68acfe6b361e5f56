-- Document 02, change 6: three figures that are known of a book before it is cleared.
use Rattle.std.specs.Prelude.{ℕ, ◌+◌, ◌*◌, List, [], ◌∷◌, length, Result, Ok, Err}
use Rattle.refusal.specs.Checks.{when_accepted}
use Rattle.refusal.specs.declared.Refusal.{Refusal}
use Rattle.refusal.specs.Verdict.{Verdict, Accepted}
use Rattle.book.specs.Entries.{BidEntries, BookEntries}
use Rattle.book.specs.Rules.{book_verdict}
use Rattle.booktext.specs.BookText.{book_text}
use Rattle.sizes.specs.declared.BookSizes.{BookSizes}
use Rattle.sizes.specs.declared.Figures.{Figures}

-- the number of segment choices: the product over the bids of segments + 1, since a bidder can also be left on segment 0
unfoldable pub choices_of : List BidEntries → ℕ
choices_of [] = 1
choices_of (b ∷ bids) = (b.count + 1) * choices_of bids

-- how long the sheet is at most: 39, and 66 for each bid
unfoldable pub sheet_limit : ℕ → ℕ
sheet_limit bids = 39 + 66 * bids

-- of an accepted book; the first is the exact length of its text
abbrev pub figures_of : BookEntries → BookSizes
figures_of b = record {
  verdict = Accepted;
  bytes = length (book_text b);
  choices = choices_of b.bids;
  sheet = sheet_limit b.count;
}

-- zeros beside a refusal
abbrev pub refused_sizes : Verdict → BookSizes
refused_sizes verdict = record { verdict = verdict; bytes = 0; choices = 0; sheet = 0 }

-- the figures, or the refusal with zeros
abbrev pub sizes_told : Result Figures Refusal → BookSizes
sizes_told (Ok figures) = record { verdict = Accepted; bytes = figures.bytes; choices = figures.choices; sheet = figures.sheet }
sizes_told (Err refusal) = refused_sizes (Err refusal)

-- what every record gets
unfoldable pub sizes_of : BookEntries → BookSizes
sizes_of b = when_accepted (book_verdict b) (figures_of b) (refused_sizes (book_verdict b))
