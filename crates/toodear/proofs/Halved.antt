-- What sells goes on selling up to the largest discount, so that halving finds the smallest that sells. Assumes nothing.
use Prim.Native.Nat.{ℕ, ◌≤◌}
use mathlib.Core.Bool.{true, and-false}
use mathlib.Core.Path.{◌≡◌, ◌∙◌, subst}
use borrow.Author.Tests.{le-leb}
use lib.Dec.{leb}
use lib.ListN.{get_or}
use Rattle.lists.specs.Least.{Least}
use Rattle.lists.proofs.Tests.{both_hold}
use Rattle.lists.proofs.Halving.{Rises}
use Rattle.refusal.specs.Verdict.{Accepted}
use Rattle.book.specs.declared.Book.{Book}
use Rattle.book.specs.Entries.{BookEntries, bid_entries, book_entries}
use Rattle.book.specs.Rules.{book_verdict}
use Rattle.book.proofs.Records.{no_bid}
use Rattle.discount.specs.Discount.{has_cents, leaves_accepted}
use Rattle.discount.specs.Named.{Named}
use Rattle.discount.proofs.Leaves.{leaves_has}
use Rattle.toodear.specs.TooDear.{sells_with, wins_with}
use Rattle.toodear.specs.Asked.{Winnable, SmallestOff}
use Rattle.toodear.proofs.Sold.{one_bidder}
use Rattle.toodear.proofs.Rises.{sells_rises}

-- the discounts of a bidder that leave an accepted book are those up to `most`
module _
    (b : BookEntries) (bidder i : ℕ) (accepted : book_verdict b ≡ Accepted) (named : Named bidder b.bids i)
    (most : ℕ) (leaves : (cents : ℕ) → leaves_accepted b bidder cents ≡ leb cents most)
  where
    pub up_to_lem : (cents : ℕ) → cents ≤ most → leaves_accepted b bidder cents ≡ true
    up_to_lem cents h = leaves cents ∙ le-leb cents most h

    pub all_have : (cents : ℕ) → cents ≤ most → has_cents cents (get_or b.bids i (bid_entries no_bid)) ≡ true
    all_have cents h = leaves_has b bidder i (bid_entries no_bid) accepted named cents (up_to_lem cents h)

    pub rises : Rises (sells_with b bidder) most
    rises low high h k s = sells_rises b bidder i (bid_entries no_bid) named low high h (all_have high k) s

    -- the least of which is accepted and wins
    pub least_wins : (cents : ℕ) → cents ≤ most → Least (sells_with b bidder) cents → Least (wins_with b bidder) cents
    unfolding wins_with
    least_wins cents h l = record {
      holds = both_hold (leaves_accepted b bidder cents) (sells_with b bidder cents) (up_to_lem cents h) l.holds;
      below = λ k n. rw (l.below k n) (and-false (leaves_accepted b bidder k));
    }

module _ (book : Book) (at most : ℕ) (winnable : Winnable book at most) where
  abbrev bidder : ℕ
  bidder = winnable.bid.bidder

  pub sells_on : Rises (sells_with (book_entries book) bidder) most
  sells_on = rises (book_entries book) bidder at winnable.bid.accepted winnable.bid.named most winnable.leaves

  pub smallest_off_lem : (cents : ℕ) → cents ≤ most → Least (sells_with (book_entries book) bidder) cents → SmallestOff book at cents
  smallest_off_lem cents h l other named =
      subst (λ (n : ℕ). Least (wins_with (book_entries book) n) cents) (one_bidder bidder other (book_entries book).bids at winnable.bid.named named)
      (least_wins (book_entries book) bidder at winnable.bid.accepted winnable.bid.named most winnable.leaves cents h l)
