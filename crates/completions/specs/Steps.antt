-- For the contracts of the functions that fill the table, all private.
use Rattle.std.specs.Prelude.{ℕ, ◌+◌, ◌≤◌, min, max, cond, List, ◌∷◌, ◌≡◌, eqb}
use Rattle.book.specs.declared.Segment.{Segment}
use Rattle.book.specs.declared.Order.{Order}
use Rattle.book.specs.declared.Bid.{Bid}
use Rattle.book.specs.Entries.{bid_entries}
use Rattle.book.specs.Accepted.{AcceptedBid}
use Rattle.supply.specs.Meets.{most_of}
use Rattle.charges.specs.declared.Prices.{Prices}
use Rattle.charges.specs.declared.Sums.{Sums}
use Rattle.charges.specs.Charge.{million}
use Rattle.charges.specs.Records.{Capped, UpTo}
use Rattle.completions.specs.Classes.{class_at, Admits, Has, Covers}

-- a class that has what either has; the first may be empty
abbrev pub joined : Sums → Sums → Sums
joined a b = cond (eqb a.high.0 0) b (record {
  low = record { 0 = min a.low.0 b.low.0 };
  high = record { 0 = max a.high.0 b.high.0 };
  charges = record { first = min a.charges.first b.charges.first; second = min a.charges.second b.charges.second };
})

-- one class is put into a table
pub record Put (before : List Sums) (i : ℕ) (x : Sums) (after : List Sums) : Type 0 where
  pub here : class_at after i ≡ x
  pub others : (j : ℕ) → (j ≡ i → ⊥) → class_at after j ≡ class_at before j

-- every class has what it had
pub record Wider (before after : List Sums) : Type 0 where
  pub admits : (i blanks x y : ℕ) → Admits (class_at before i) blanks x y → Admits (class_at after i) blanks x y

-- what `add_class` asks: a class over at most the bidders from `at` on
pub record Addable (at : ℕ) (x : Sums) : Type 0 where
  pub up_to : (left : ℕ) → at + left ≡ 8 → UpTo left x

-- what it does: the classes for the bidders from `at` on have what x has
pub record Added (at : ℕ) (x : Sums) (before after : List Sums) : Type 0 where
  pub wider : Wider before after
  pub new : (blanks first second : ℕ) → Admits x blanks first second → Has 32 after at blanks first second

-- what `with_segment` asks: the sums of a segment
pub record Extendable (more : Sums) : Type 0 where
  pub one : UpTo 1 more
  pub counted : more.high.0 ≤ million

-- what `with_class` asks besides: a class of the bidders after `at`
pub record ClassExtendable (at : ℕ) (class more : Sums) : Type 0 where
  pub segment : Extendable more
  pub up_to : (left : ℕ) → at + 1 + left ≡ 8 → UpTo left class

-- so many blanks with these charges, and any quantity on the segment besides, are of a class where the order takes so many
abbrev pub Grown : Order → ℕ → Sums → List Sums → ℕ → ℕ → ℕ → Type 0
Grown order at more table blanks x y =
    (r : ℕ) → more.low.0 ≤ r → r ≤ more.high.0 → r + blanks ≤ most_of order
    → Has 32 table at (r + blanks) (more.charges.first + x) (more.charges.second + y)

-- what `with_class` does: so are those of the class
pub record ClassExtended (order : Order) (at : ℕ) (class more : Sums) (before after : List Sums) : Type 0 where
  pub wider : Wider before after
  pub grown : (blanks x y : ℕ) → Admits class blanks x y → Grown order at more after blanks x y

-- what `with_segment` does: so are those of each of the 32 classes of the bidders after `at`; here, of the first `many`
pub record ExtendedBy (order : Order) (at : ℕ) (more : Sums) (many : ℕ) (before after : List Sums) : Type 0 where
  pub wider : Wider before after
  pub grown : (blanks x y : ℕ) → Has many before (at + 1) blanks x y → Grown order at more after blanks x y

-- what `with_bid` asks
pub record BidExtendable (bid : Bid) (prices : Prices) : Type 0 where
  pub accepted : AcceptedBid (bid_entries bid)
  pub capped : Capped prices

-- what it does: the table covers with bidder `at`, by its supply function, what it covered after `at`
pub record ExtendedByBid (order : Order) (at : ℕ) (prices : Prices) (supply : List Segment) (before after : List Sums) : Type 0 where
  pub wider : Wider before after
  pub covers : (supplies : List (List Segment)) → Covers order prices before (at + 1) supplies → Covers order prices after at (supply ∷ supplies)
