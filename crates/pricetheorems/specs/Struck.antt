-- A book with a bidder struck out.
use Rattle.std.specs.Prelude.{ℕ, ◌<◌, ◌≡◌, length}
use Rattle.book.specs.Entries.{BookEntries}
use Rattle.without.specs.Without.{book_without}

-- the book less the bid with index i, the rest as it was
pub record Struck (i : ℕ) (b b' : BookEntries) : Type 0 where
  pub bid : i < length b.bids
  pub rest : b' ≡ book_without i b
