-- What an accepted book keeps. Contracts ask for as much of it as their functions need.
use Rattle.std.specs.Prelude.{ℕ, ◌≤◌, ◌<◌, true, ◌≡◌}
use Rattle.lists.specs.Every.{every}
use Rattle.refusal.specs.Verdict.{Accepted}
use Rattle.book.specs.Entries.{BidEntries, BookEntries}
use Rattle.book.specs.Rules.{segment_in_range, segments_rise, start_not_negative, bids_verdict}

pub record AcceptedBid (b : BidEntries) : Type 0 where
  pub count_low : 1 ≤ b.count
  pub count_high : b.count ≤ 6
  pub bidder_low : 1 ≤ b.bidder
  pub bidder_high : b.bidder ≤ 9999
  pub carriage_high : b.carriage ≤ 10000
  pub ranges : every segment_in_range b.segments ≡ true
  pub rises : segments_rise 0 b.segments ≡ true
  pub not_negative : every start_not_negative b.segments ≡ true

-- a bid on its line, after one of the bidder `before`
pub record AcceptedLine (before : ℕ) (b : BidEntries) : Type 0 where
  pub bid : AcceptedBid b
  pub above : before < b.bidder

pub record AcceptedBook (b : BookEntries) : Type 0 where
  pub demand_low : 1 ≤ b.order.demand.0
  pub demand_high : b.order.demand.0 ≤ 1000000
  pub allowance_high : b.order.allowance.0 ≤ 1000000
  pub count_low : 1 ≤ b.count
  pub count_high : b.count ≤ 8
  pub bids : bids_verdict 2 0 b.bids ≡ Accepted
