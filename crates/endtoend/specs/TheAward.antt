-- The words of demand 3 and of document 02, change 5, for the award of a book, as its record shows it, sampled by a table.
use Rattle.std.specs.Prelude.{ℕ, ◌≤◌, ◌<◌, List, [], ◌≡◌, get_or}
use Rattle.book.specs.Entries.{BidEntries, BookEntries}
use Rattle.sampling.specs.Entries.{TableEntries}
use Rattle.supply.specs.Supply.{supplies_of}
use Rattle.supply.specs.Allocation.{bought}
use Rattle.divisions.specs.Award.{Priced}
use Rattle.divisions.specs.IsAward.{inside_count}
use Rattle.award.specs.declared.Total.{Total}
use Rattle.award.specs.declared.Total.TheVariants.{Amount, Nothing}
use Rattle.award.specs.declared.Award.{Award}
use Rattle.award.specs.Award.{row_of}
use Rattle.without.specs.Without.{book_without}
use Rattle.awardtheorems.specs.OfBook.{DivisionOf, IsAwardOf}
use Rattle.awardtheorems.specs.Awarded.{row_at, awarded}

-- a total shown: the price of the award so fixed for these bids, and `none` exactly when they have no division
abbrev pub TotalOf : BookEntries → Total → Type 0
TotalOf b (Amount cents) = (award : Priced) × IsAwardOf b award × (award.cost ≡ cents.0)
TotalOf b Nothing = (rs : List ℕ) → DivisionOf b rs → ⊥

-- the bid with index i, in book order from 0; past the bids, where it is never asked for, one without segments
abbrev pub bid_at : BookEntries → ℕ → BidEntries
bid_at b i = get_or b.bids i (record { bidder = 0; carriage = 0; count = 0; segments = [] })

pub record TheAward (table : TableEntries) (b : BookEntries) (a : Award) : Type 0 where
  pub demand : a.demand.0 ≡ b.order.demand.0
  -- what all bidders sell
  pub bought : a.bought.0 ≡ bought (awarded a).quantities
  pub count : a.count ≡ b.count
  -- one of the divisions; every other costs more; or costs the same and has more blanks; or as many, and gives less to the first bidder at
  -- whom the two differ
  pub best : IsAwardOf b (awarded a)
  -- at most one bidder stands strictly inside its segment
  pub one_inside : inside_count (supplies_of b.bids) (awarded a).quantities ≤ 1
  -- each row: bidder, segment, quantity, price and sample by the table
  pub rows : (i : ℕ) → i < b.count → row_at a i ≡ row_of table (bid_at b i) (get_or (awarded a).quantities i 0) (row_at a i).without
  -- the total without a bidder is that of the award so fixed for the other bids
  pub without : (i : ℕ) → i < b.count → TotalOf (book_without i b) (row_at a i).without
