-- What the hints ask of a bid, of a book and of a price. The bids of an accepted book have it.
use Rattle.std.specs.Prelude.{ℕ, ◌≤◌}
use Rattle.lists.specs.All.{All}
use Rattle.book.specs.declared.Bid.{Bid}
use Rattle.book.specs.declared.Book.{Book}
use Rattle.book.specs.Entries.{bid_entries, book_entries}
use Rattle.book.specs.Accepted.{AcceptedBid}
use Rattle.charges.specs.Charge.{highest}

-- what `favourite` asks
pub record HintedBid (bid : Bid) (price : ℕ) : Type 0 where
  pub accepted : AcceptedBid (bid_entries bid)
  pub capped : price ≤ highest

-- what `balance` asks
pub record HintedBook (book : Book) : Type 0 where
  pub few : book.count ≤ 8
  pub bids : All AcceptedBid (book_entries book).bids

-- what `sold`, `favourites` and `second_price` ask
pub record HintedBookBy (book : Book) (price : ℕ) : Type 0 where
  pub hinted : HintedBook book
  pub capped : price ≤ highest
