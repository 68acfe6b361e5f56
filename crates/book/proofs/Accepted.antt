-- What is known of an accepted book: callers cite these laws and not the rules' text. Assumes nothing.
use Prim.Native.Nat.{ℕ, zero, suc, ◌+◌, ◌≤◌, ◌<◌}
use native.Mathlib.Nat.{le_of_suc-le-suc, not-suc-le-zero}
use native.Mathlib.Omega.{arith}
use mathlib.Core.Bool.{Bool, ◌&&◌, and-true}
use mathlib.Core.List.{List, [], ◌∷◌, map}
use mathlib.Core.Path.{◌≡◌, ap, subst}
use borrow.Author.Tests.{leb-true, ltb-true}
use lib.ListN.{length, get_or, take}
use Rattle.lists.specs.All.{All}
use Rattle.lists.specs.Every.{every}
use Rattle.lists.proofs.All.{all_indexed, all_at}
use Rattle.lists.proofs.Tests.{both_left, both_right}
use Rattle.refusal.specs.Verdict.{Accepted}
use Rattle.refusal.proofs.Firsts.{all_passed, test_holds}
use Rattle.book.specs.declared.Bid.{Bid}
use Rattle.book.specs.declared.Book.{Book}
use Rattle.book.specs.Entries.{BidEntries, BookEntries, bid_entries, book_entries}
use Rattle.book.specs.Rules.{within, segment_in_range, bid_in_range, bid_verdict, bids_verdict, order_in_range, book_verdict}
use Rattle.book.specs.Accepted.{AcceptedBid, AcceptedLine, AcceptedBook}
use Rattle.book.proofs.Records.{no_bid}
use Rattle.book.proofs.InRange.{within_low, within_high}
use Rattle.book.proofs.Bids.{length_entries, entry_at}

-- The checks in their order. A `_` is found where what its check tells is used; one that is not used has to be written out.
pub line_accepted : (line before : ℕ) (b : BidEntries) → bid_verdict line before b ≡ Accepted → AcceptedLine before b
unfolding bid_verdict bid_in_range
line_accepted line before b e =
    let (count, (ranges, (above, (rises, (not_negative, _))))) = all_passed (_ ∷ _ ∷ _ ∷ _ ∷ _ ∷ []) e in
    let counted = test_holds _ _ _ count in
    let ranged = test_holds _ _ _ ranges in
    let head = both_left (within 1 9999 b.bidder && within 0 10000 b.carriage) _ ranged in
    let bidder = both_left (within 1 9999 b.bidder) _ head in
    let carriage = both_right (within 1 9999 b.bidder) _ head in
    record {
      bid = record {
        count_low = within_low 1 6 b.count counted;
        count_high = within_high 1 6 b.count counted;
        bidder_low = within_low 1 9999 b.bidder bidder;
        bidder_high = within_high 1 9999 b.bidder bidder;
        carriage_high = within_high 0 10000 b.carriage carriage;
        ranges = both_right (within 1 9999 b.bidder && within 0 10000 b.carriage) _ ranged;
        rises = test_holds _ _ _ rises;
        not_negative = test_holds _ _ _ not_negative;
      };
      above = ltb-true before b.bidder (test_holds _ _ _ above);
    }

-- a bid without carriage is in range exactly where its bidder and its segments are
pub range_without : (b : BidEntries) → b.carriage ≡ 0 → bid_in_range b ≡ (within 1 9999 b.bidder && every segment_in_range b.segments)
unfolding bid_in_range
range_without b e = rw e (ap (λ (t : Bool). t && every segment_in_range b.segments) (and-true (within 1 9999 b.bidder)))

pub book_accepted : (b : BookEntries) → book_verdict b ≡ Accepted → AcceptedBook b
unfolding book_verdict order_in_range
book_accepted b e =
    let (asked, (some-bids, (bids, (few_bids, _)))) = all_passed (_ ∷ _ ∷ _ ∷ _ ∷ []) e in
    let ranged = test_holds _ _ _ asked in
    let demand = both_left (within 1 1000000 b.order.demand.0) (within 0 1000000 b.order.allowance.0) ranged in
    let allowance = both_right (within 1 1000000 b.order.demand.0) (within 0 1000000 b.order.allowance.0) ranged in
    record {
      demand_low = within_low 1 1000000 b.order.demand.0 demand;
      demand_high = within_high 1 1000000 b.order.demand.0 demand;
      allowance_high = within_high 0 1000000 b.order.allowance.0 allowance;
      count_low = ltb-true 0 b.count (test_holds _ _ _ some-bids);
      count_high = leb-true b.count 8 (test_holds _ _ _ few_bids);
      bids = bids;
    }

-- the first bid on its line, and then the others
module _ (line before : ℕ) (b : BidEntries) (bs : List BidEntries) (accepted : bids_verdict line before (b ∷ bs) ≡ Accepted) where
  lines : All (λ v. v ≡ Accepted) (bid_verdict line before b ∷ bids_verdict (line + 1) b.bidder bs ∷ [])
  unfolding bids_verdict
  lines = all_passed (_ ∷ _ ∷ []) accepted

  pub first_line : AcceptedLine before b
  first_line = line_accepted line before b lines.0

  pub later_lines : bids_verdict (line + 1) b.bidder bs ≡ Accepted
  later_lines = lines.1.0

pub bids_accepted : (line before : ℕ) (bs : List BidEntries) (d : BidEntries) → bids_verdict line before bs ≡ Accepted → (i : ℕ)
    → i < length bs → AcceptedBid (get_or bs i d)
bids_accepted line before [] d e i h = absurd (not-suc-le-zero h)
bids_accepted line before (b ∷ bs) d e zero h = (first_line line before b bs e).bid
bids_accepted line before (b ∷ bs) d e (suc i) h = bids_accepted (line + 1) b.bidder bs d (later_lines line before b bs e) i (le_of_suc-le-suc h)

pub all_accepted : (b : BookEntries) → book_verdict b ≡ Accepted → All AcceptedBid b.bids
all_accepted b accepted =
    all_indexed AcceptedBid (bid_entries no_bid) b.bids (bids_accepted 2 0 b.bids (bid_entries no_bid) (book_accepted b accepted).bids)

-- the bidders rise strictly
pub bidders_rise : (line before : ℕ) (bs : List BidEntries) (d : BidEntries) → bids_verdict line before bs ≡ Accepted → (i : ℕ)
    → suc i < length bs → (get_or bs i d).bidder < (get_or bs (suc i) d).bidder
bidders_rise line before [] d e i h = absurd (not-suc-le-zero h)
bidders_rise line before (b ∷ []) d e i h = absurd (not-suc-le-zero (le_of_suc-le-suc h))
bidders_rise line before (b ∷ c ∷ bs) d e zero h = (first_line (line + 1) b.bidder c bs (later_lines line before b (c ∷ bs) e)).above
bidders_rise line before (b ∷ c ∷ bs) d e (suc i) h = bidders_rise (line + 1) b.bidder (c ∷ bs) d (later_lines line before b (c ∷ bs) e) i (le_of_suc-le-suc h)

-- each bid that a record holds, where all are accepted
pub accepted_at : (bs : List Bid) (n : ℕ) → n ≤ length bs → All AcceptedBid (map bid_entries (take n bs)) → (i : ℕ) → i < n
    → AcceptedBid (bid_entries (get_or bs i no_bid))
accepted_at bs n held all i h =
    let within : i < length (map bid_entries (take n bs)) = rw (length_entries bs n held) h in
    subst AcceptedBid (entry_at bs n held i h) (all_at AcceptedBid (bid_entries no_bid) (map bid_entries (take n bs)) all i within)

-- each bid of an accepted record
module _ (b : Book) (accepted : book_verdict (book_entries b) ≡ Accepted) (held : length b.bids ≡ 8) where
  pub few_bids : b.count ≤ 8
  few_bids = (book_accepted (book_entries b) accepted).count_high

  pub bid_at_lem : (i : ℕ) → i < b.count → AcceptedBid (bid_entries (get_or b.bids i no_bid))
  bid_at_lem i h = accepted_at b.bids b.count (omega (arith, few_bids)) (all_accepted (book_entries b) accepted) i h
