-- The named bidder's bid, found by its index. Assumes nothing.
use Prim.Native.Nat.{ℕ, zero, suc, ◌+◌, ◌≤◌, ◌<◌}
use native.Mathlib.Nat.{le_of_suc-le-suc, not-suc-le-zero}
use native.Mathlib.Omega.{arith}
use mathlib.Core.Bool.{true, false}
use mathlib.Core.List.{List, [], ◌∷◌}
use mathlib.Core.Path.{◌≡◌, refl, ap}
use borrow.Author.Tests.{eqb-true, ne_eqb}
use lib.ListN.{length, get_or, set}
use Rattle.lists.specs.All.{All}
use Rattle.lists.specs.Those.{those}
use Rattle.lists.proofs.All.{all_from, all_at}
use Rattle.refusal.specs.Verdict.{Accepted}
use Rattle.book.specs.declared.Book.{Book}
use Rattle.book.specs.Entries.{BidEntries, book_entries}
use Rattle.book.specs.Rules.{bids_verdict, book_verdict}
use Rattle.book.proofs.Bids.{length_entries}
use Rattle.book.proofs.Accepted.{later_lines, few_bids}
use Rattle.book.proofs.Bidders.{all_above}
use Rattle.discount.specs.Discount.{bid_off, is_of, bids_off}
use Rattle.discount.specs.Named.{Named}

-- no bid after the bidder's own is its own
others_above : (bidder : ℕ) (bs : List BidEntries) → All (λ b. bidder < b.bidder) bs → All (λ b. is_of bidder b ≡ false) bs
others_above bidder = all_from (λ b. bidder < b.bidder) (λ b. is_of bidder b ≡ false) (λ b h. ne_eqb b.bidder bidder (λ e. omega arith))

-- of an accepted book, whichever bid is of the bidder is the only one
pub named_at : (bidder line before : ℕ) (bs : List BidEntries) (d : BidEntries) → bids_verdict line before bs ≡ Accepted → (i : ℕ) → i < length bs
    → is_of bidder (get_or bs i d) ≡ true → Named bidder bs i
named_at bidder line before [] d e i h is = absurd (not-suc-le-zero h)
named_at bidder line before (b ∷ bs) d e zero h is =
    let same = eqb-true b.bidder bidder is in
    let above = all_above (line + 1) b.bidder bs (later_lines line before b bs e) in
    (is, others_above bidder bs (rw same at above))
named_at bidder line before (b ∷ bs) d e (suc i) h is =
    let rest = later_lines line before b bs e in
    let above = all_at (λ c. b.bidder < c.bidder) d bs (all_above (line + 1) b.bidder bs rest) i (le_of_suc-le-suc h) in
    let same = eqb-true (get_or bs i d).bidder bidder is in
    (ne_eqb b.bidder bidder (λ e. omega arith), named_at bidder (line + 1) b.bidder bs d rest i (le_of_suc-le-suc h) is)

module _ (bidder : ℕ) where
  pub named_within : (bs : List BidEntries) (i : ℕ) → Named bidder bs i → i < length bs
  named_within (b ∷ bs) zero n = omega arith
  named_within [] i n = elim n [ ]
  named_within (b ∷ bs) (suc i) n = omega (arith, named_within bs i n.1)

  -- where no bid is the bidder's, none is among those that are, and none is changed
  none_of : (bs : List BidEntries) → All (λ b. is_of bidder b ≡ false) bs → those (is_of bidder) bs ≡ []
  unfolding those
  none_of [] o = refl
  none_of (b ∷ bs) o = rw o.0 (none_of bs o.1)

  pub none_off : (cents : ℕ) (bs : List BidEntries) → All (λ b. is_of bidder b ≡ false) bs → bids_off bidder cents bs ≡ bs
  none_off cents [] o = refl
  none_off cents (b ∷ bs) o = rw o.0 (ap (λ (l : List BidEntries). b ∷ l) (none_off cents bs o.1))

  -- its own is the one
  pub those_named : (bs : List BidEntries) (i : ℕ) (d : BidEntries) → Named bidder bs i → those (is_of bidder) bs ≡ get_or bs i d ∷ []
  unfolding those
  those_named (b ∷ bs) zero d n = rw n.0 (ap (λ (l : List BidEntries). b ∷ l) (none_of bs n.1))
  those_named [] i d n = elim n [ ]
  those_named (b ∷ bs) (suc i) d n = rw n.0 (those_named bs i d n.1)

  pub off_named : (cents : ℕ) (bs : List BidEntries) (i : ℕ) (d : BidEntries) → Named bidder bs i → bids_off bidder cents bs ≡ set bs i (bid_off cents (get_or bs i d))
  off_named cents (b ∷ bs) zero d n = rw n.0 (ap (λ (l : List BidEntries). bid_off cents b ∷ l) (none_off cents bs n.1))
  off_named cents [] i d n = elim n [ ]
  off_named cents (b ∷ bs) (suc i) d n = rw n.0 (ap (λ (l : List BidEntries). b ∷ l) (off_named cents bs i d n.1))

-- the bid is one of those that a record holds
pub named_record : (book : Book) (bidder at : ℕ) → book_verdict (book_entries book) ≡ Accepted → length book.bids ≡ 8 → Named bidder (book_entries book).bids at
    → (at < book.count) × (book.count ≤ 8)
named_record book bidder at accepted held named =
    let few = few_bids book accepted held in
    let all = length_entries book.bids book.count (omega arith) in
    (omega (arith, named_within bidder (book_entries book).bids at named), few)
