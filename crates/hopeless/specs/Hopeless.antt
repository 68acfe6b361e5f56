-- For the contract of `hopeless`: in a part of the search, a choice with all ways to complete it, there is nothing better than the best so far.
use Rattle.std.specs.Prelude.{ℕ, Option, Some, ◌+◌, ◌*◌, ◌^◌, ◌≤◌, ◌<◌, max, Bool, true, List, ◌⊎◌, ◌≡◌, nat_abs, length, take}
use Rattle.lists.specs.All.{All}
use Rattle.book.specs.declared.Segment.{Segment}
use Rattle.book.specs.declared.Order.{Order}
use Rattle.book.specs.Entries.{BidEntries}
use Rattle.book.specs.Accepted.{AcceptedBid}
use Rattle.supply.specs.Supply.{supplies_of}
use Rattle.supply.specs.Meets.{most_of}
use Rattle.supply.specs.Sound.{SoundSegment}
use Rattle.divisions.specs.Award.{gives_more}
use Rattle.choices.specs.Choice.{starts, ends_in_order}
use Rattle.choices.specs.Search.{search}
use Rattle.comparison.specs.declared.PricedDivision.{PricedDivision}
use Rattle.comparison.specs.Records.{blanks_in, found}
use Rattle.charges.specs.declared.Prices.{Prices}
use Rattle.charges.specs.declared.Sums.{Sums}
use Rattle.charges.specs.Charge.{million, highest}
use Rattle.charges.specs.Records.{SumsOf, UpTo}
use Rattle.completions.specs.Classes.{Covers}

-- The best so far wins every tie against a choice: it has no more blanks than any division of it, which gives each bidder its start and
-- meets the demand; and it gives more than the ends of the choice to the first of its bidders at whom they differ.
pub record WinsTies (order : Order) (c : List Segment) (best : PricedDivision) : Type 0 where
  pub few : best.bought.0 ≤ max order.demand.0 (starts c)
  pub more : gives_more (take (length c) (blanks_in best.quantities)) (ends_in_order c) ≡ true

-- by a price l of a blank, n bidders with these charges who sell `least` blanks or more cost more than so many cents; or as many, where that is
-- enough
abbrev pub Above : (least n l charged cents : ℕ) → Bool → Type 0
Above least n l charged cents ties =
    (cents + l * (million * n) < charged + l * least) ⊎ ((ties ≡ true) × (cents + l * (million * n) ≤ charged + l * least))

-- what is bought at least with starts that add up to so many: the demand, or these where they pass it
abbrev pub least_bought : Order → ℕ → ℕ
least_bought order low = max order.demand.0 low

-- of a choice with these sums and a class of ways to complete it nothing is better than the best so far
pub data Closed (order : Order) (n : ℕ) (prices : Prices) (sums class : Sums) (ties : Bool) (best : Option PricedDivision) : Type 0 where
  -- the class is empty
  empty : class.high.0 ≡ 0 → Closed order n prices sums class ties best
  -- the starts pass what the order takes
  passed : most_of order < sums.low.0 + class.low.0 → Closed order n prices sums class ties best
  -- the ends do not reach the demand; a class does not count its `high`
  short : sums.high.0 + class.high.0 ≤ order.demand.0 → Closed order n prices sums class ties best
  -- every division costs too much, by the first price or by the second
  dear_first : (kept : PricedDivision) → best ≡ Some kept
      → Above (least_bought order (sums.low.0 + class.low.0)) n prices.first.0 (sums.charges.first + class.charges.first) (nat_abs kept.cost.0) ties
      → Closed order n prices sums class ties best
  dear_second : (kept : PricedDivision) → best ≡ Some kept
      → Above (least_bought order (sums.low.0 + class.low.0)) n prices.second.0 (sums.charges.second + class.charges.second) (nat_abs kept.cost.0) ties
      → Closed order n prices sums class ties best

-- what `dear` asks: numbers of at most eight bidders, so that nothing wraps
pub record Comparable (l least charged cents : ℕ) : Type 0 where
  pub in_reach : least ≤ 20000000
  pub capped : l ≤ highest
  pub small : charged ≤ 2 ^ 62
  pub price : cents ≤ 2 ^ 63

-- what `closed` asks: sums over at most eight bidders each
pub record Closable (sums class : Sums) : Type 0 where
  pub chosen : UpTo 8 sums
  pub left : UpTo 8 class

-- what `hopeless` asks: the sums of a choice for the first `at` of n bidders
pub record Testable (n at : ℕ) (sums : Sums) : Type 0 where
  pub within : at ≤ n
  pub small : UpTo 8 sums

-- the search with a choice c that has these sums, and with bidders whose ways to complete it the table covers, leaves the best so far as it is
pub record NothingBetter (order : Order) (n : ℕ) (prices : Prices) (table : List Sums) (at : ℕ) (sums : Sums) (ties : Bool) (best : Option PricedDivision)
    : Type 0 where
  pub as_it_is : (c : List Segment) → All SoundSegment c → length c ≡ at → SumsOf order prices c sums
      → (ties ≡ true → (kept : PricedDivision) → best ≡ Some kept → WinsTies order c kept)
      → (bids : List BidEntries) → All AcceptedBid bids → at + length bids ≡ n → Covers order prices table at (supplies_of bids)
      → search order (supplies_of bids) c (found n best) ≡ found n best
