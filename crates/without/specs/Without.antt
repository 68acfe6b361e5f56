-- The total without a bidder: document 01, section "The sheet", with the order of the book (document 02, change 5).
use Rattle.std.specs.Prelude.{ℕ, suc, ◌-◌, ◌≤◌, ◌<◌, ◌++◌, ◌≡◌, take, drop}
use Rattle.std.proofs.Math.Option.{Option, some, none}
use Rattle.refusal.specs.Verdict.{Accepted}
use Rattle.book.specs.declared.Book.{Book}
use Rattle.book.specs.Entries.{BookEntries, book_entries}
use Rattle.book.specs.Rules.{book_verdict}
use Rattle.divisions.specs.Award.{Priced, award_of_book}
use Rattle.comparison.specs.declared.PricedDivision.{PricedDivision}
use Rattle.comparison.specs.Records.{division_in}
use Rattle.award.specs.declared.Total.{Total}
use Rattle.award.specs.declared.Total.TheVariants.{Amount, Nothing}

-- the book less the bid with index i, the rest as it is
unfoldable pub book_without : ℕ → BookEntries → BookEntries
book_without i b = record { order = b.order; count = b.count - 1; bids = take i b.bids ++ drop (suc i) b.bids }

-- the price of the award, or `none` where there is none
abbrev pub total_of : Option Priced → Total
total_of none = Nothing
total_of (some award) = Amount (record { 0 = award.cost })

-- the total that clearing would give if the bidder with index i alone had not bid
unfoldable pub total_without : BookEntries → ℕ → Total
total_without b i = total_of (award_of_book (book_without i b))

-- what `book_without` asks: the index of one of at most eight bids
pub record OneOf (n i : ℕ) : Type 0 where
  pub within : i < n
  pub few : n ≤ 8

-- what `total_without` asks: an accepted book, and the index of one of its bids
pub record BidOf (b : BookEntries) (i : ℕ) : Type 0 where
  pub accepted : book_verdict b ≡ Accepted
  pub within : i < b.count

-- what `total_beside` asks: an accepted book, the index of one of its bids, and the book's award
pub record BesideAward (book : Book) (i : ℕ) (award : PricedDivision) : Type 0 where
  pub accepted : book_verdict (book_entries book) ≡ Accepted
  pub within : i < book.count
  pub is_award : award_of_book (book_entries book) ≡ some (division_in book.count award)
