-- What the machine guarantees of a record's arrays: eight places for bids, and six for segments in each.
use Rattle.std.specs.Prelude.{◌≡◌, length}
use Rattle.lists.specs.All.{All}
use Rattle.book.specs.declared.Bid.{Bid}
use Rattle.book.specs.declared.Book.{Book}

abbrev pub SixSegments : Bid → Type 0
SixSegments b = length b.segments ≡ 6

pub record Arrays (b : Book) : Type 0 where
  pub bids : length b.bids ≡ 8
  pub segments : All SixSegments b.bids
