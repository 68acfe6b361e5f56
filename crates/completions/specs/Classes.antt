-- What the bidders left can add to a choice, in classes: each way to complete the choice has its blanks and its charges in some class.
use Rattle.std.specs.Prelude.{ℕ, zero, suc, ◌+◌, ◌*◌, ◌≤◌, ◌<◌, List, ◌≡◌, get_or, drop, length}
use Rattle.lists.specs.All.{All}
use Rattle.book.specs.declared.Segment.{Segment}
use Rattle.book.specs.declared.Order.{Order}
use Rattle.book.specs.declared.Book.{Book}
use Rattle.book.specs.Entries.{book_entries}
use Rattle.book.specs.Accepted.{AcceptedBid}
use Rattle.supply.specs.Supply.{supplies_of}
use Rattle.supply.specs.Allocation.{bought}
use Rattle.supply.specs.Meets.{most_of}
use Rattle.choices.specs.Choice.{placed}
use Rattle.choices.specs.Chosen.{Chosen}
use Rattle.charges.specs.declared.Prices.{Prices}
use Rattle.charges.specs.declared.Sums.{Sums}
use Rattle.charges.specs.Charge.{charges}
use Rattle.charges.specs.Records.{Capped, UpTo}

-- the class of zeros, which stands past the end of a table: it is empty
abbrev pub no_class : Sums
no_class = record { low = record { 0 = 0 }; high = record { 0 = 0 }; charges = record { first = 0; second = 0 } }

-- the class with index i of a table
abbrev pub class_at : List Sums → ℕ → Sums
class_at table i = get_or table i no_class

-- so many blanks with these charges are of a class: its `high` is not counted, so that a class of zeros is empty
pub record Admits (class : Sums) (blanks x y : ℕ) : Type 0 where
  pub low : class.low.0 ≤ blanks
  pub high : blanks < class.high.0
  pub first : class.charges.first ≤ x
  pub second : class.charges.second ≤ y

-- they are of one of the first `many` of the 32 classes for the bidders from `at` on
pub record Has (many : ℕ) (table : List Sums) (at blanks x y : ℕ) : Type 0 where
  pub class : ℕ
  pub within : class < many
  pub admits : Admits (class_at table (32 * at + class)) blanks x y

-- how many classes there are for so many bidders left: without any bidder nothing can be added
abbrev pub class_count : ℕ → ℕ
class_count zero = 1
class_count (suc left) = 32

-- every way to complete a choice within what the order takes, with these supply functions for the bidders from `at` on, is of some class
pub record Covers (order : Order) (prices : Prices) (table : List Sums) (at : ℕ) (supplies : List (List Segment)) : Type 0 where
  pub has : (e : List Segment) (ys : List ℕ) → Chosen supplies e ys → bought (placed e ys) ≤ most_of order
      → Has (class_count (length supplies)) table at (bought (placed e ys)) (charges order prices.first.0 e) (charges order prices.second.0 e)

-- how large the numbers of a table are: those of a class for the bidders from `at` on are over the rest of eight
pub record Graded (table : List Sums) : Type 0 where
  pub up_to : (at left class : ℕ) → at + left ≡ 8 → class < 32 → UpTo left (class_at table (32 * at + class))

-- what `survey` asks: bids as the search asks for them
pub record Surveyable (book : Book) (prices : Prices) : Type 0 where
  pub few : book.count ≤ 8
  pub bids : All AcceptedBid (book_entries book).bids
  pub capped : Capped prices

-- what it does: each table of classes covers the bidders from there on
pub record Surveyed (book : Book) (prices : Prices) (table : List Sums) : Type 0 where
  pub covers : (at : ℕ) → at ≤ book.count → Covers book.order prices table at (drop at (supplies_of (book_entries book).bids))
