-- For the contracts of this crate: what the search and its steps ask of a book and of a choice.
use Rattle.std.specs.Prelude.{ℕ, Option, ◌≤◌, ◌<◌, ◌≡◌, List, length}
use Rattle.lists.specs.All.{All}
use Rattle.book.specs.declared.Order.{Order}
use Rattle.book.specs.declared.Book.{Book}
use Rattle.book.specs.Entries.{BookEntries, book_entries}
use Rattle.book.specs.Accepted.{AcceptedBid}
use Rattle.supply.specs.Supply.{supplies_of}
use Rattle.choices.specs.Leaf.{Started}
use Rattle.choicerecord.specs.declared.Choice.{Choice}
use Rattle.choicerecord.specs.Records.{chosen}
use Rattle.comparison.specs.declared.PricedDivision.{PricedDivision}
use Rattle.comparison.specs.Records.{found}
use Rattle.charges.specs.declared.Prices.{Prices}
use Rattle.charges.specs.declared.Charges.{Charges}
use Rattle.charges.specs.declared.Sums.{Sums}
use Rattle.charges.specs.Records.{Capped, ChargesOf, SumsOf}
use Rattle.completions.specs.Classes.{Surveyed}
use Rattle.search.specs.ChosenFrom.{ChosenFrom}

-- what the search asks of a book: accepted books have it, and so have the books less a bid
pub record Searchable (b : BookEntries) : Type 0 where
  pub few : b.count ≤ 8
  pub bids : All AcceptedBid b.bids

-- what `first` asks: a book, and what a complete choice of its segments gives, or none
pub record StartedWith (book : Book) (best : Option PricedDivision) : Type 0 where
  pub searchable : Searchable (book_entries book)
  pub started : Started book.order (supplies_of (book_entries book).bids) (found book.count best)

-- what `first_at` asks besides: a complete choice, and a bidder of the book
pub record ImprovableAt (book : Book) (c : Choice) (at : ℕ) (best : Option PricedDivision) : Type 0 where
  pub started_with : StartedWith book best
  pub choice : ChosenFrom (supplies_of (book_entries book).bids) c
  pub bidder : at < book.count

-- a book, and a choice for the first of its bidders, for none or for all
pub record ChoiceOf (book : Book) (c : Choice) : Type 0 where
  pub searchable : Searchable (book_entries book)
  pub within : c.count ≤ book.count

-- what `lost` asks: a choice for the first of n bidders with its sums
pub record Testing (order : Order) (n : ℕ) (prices : Prices) (c : Choice) (sums : Sums) : Type 0 where
  pub within : c.count ≤ n
  pub sums_of_lem : SumsOf order prices (chosen c) sums

-- what a choice is judged by: the sums that it carries, and its charges
abbrev pub sums_of : Choice → Charges → Sums
sums_of c charges = record { low = c.starts; high = c.ends; charges = charges }

-- what `search` asks of its book: the classes are those of the book's bidders, by these prices
pub record Bounding (book : Book) (prices : Prices) (table : List Sums) : Type 0 where
  pub searchable : Searchable (book_entries book)
  pub held : length book.bids ≡ 8
  pub capped : Capped prices
  pub surveyed : Surveyed book prices table

-- and of its choice: it is one for the first of the book's bidders but not for all, with its charges
pub record Searching (book : Book) (prices : Prices) (c : Choice) (charges : Charges) : Type 0 where
  pub further : c.count < book.count
  pub charges_of : ChargesOf book.order prices (chosen c) charges
