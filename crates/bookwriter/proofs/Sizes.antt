-- The lines of the bids of a record. Assumes nothing.
use Prim.Native.Nat.{ℕ}
use mathlib.Core.List.{List}
use mathlib.Core.Path.{◌≡◌}
use lib.ListN.{take}
use Rattle.lists.specs.Joined.{joined}
use Rattle.lists.proofs.Joined.{joined_map}
use Rattle.book.specs.declared.Bid.{Bid}
use Rattle.book.specs.declared.Book.{Book}
use Rattle.book.specs.Entries.{bid_entries, book_entries}
use Rattle.booktext.specs.BookText.{bid_text}

-- the line of a bid of a record, and the lines of all its bids
abbrev pub bid_line : Bid → List ℕ
bid_line b = bid_text (bid_entries b)

pub bid_lines : (b : Book) → joined bid_text (book_entries b).bids ≡ joined bid_line (take b.count b.bids)
bid_lines b = joined_map bid_text bid_entries (take b.count b.bids)
