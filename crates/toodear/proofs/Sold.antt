-- What the named bidder sells is the quantity at the index of its bid. Assumes nothing.
use Prim.Native.Nat.{ℕ, zero, suc}
use native.Mathlib.Omega.{arith}
use mathlib.Core.Bool.{true, false}
use mathlib.Core.List.{List, [], ◌∷◌}
use mathlib.Core.Path.{◌≡◌, refl, sym, ◌∙◌}
use borrow.Author.Tests.{eqb-true}
use lib.ListN.{get_or}
use Rattle.lists.specs.All.{All}
use Rattle.lists.specs.Any.{any}
use Rattle.book.specs.Entries.{BidEntries}
use Rattle.discount.specs.Discount.{is_of}
use Rattle.discount.specs.Named.{Named}
use Rattle.toodear.specs.TooDear.{sold_by}

module _ (bidder : ℕ) where
  sold_none : (bs : List BidEntries) (rs : List ℕ) → All (λ b. is_of bidder b ≡ false) bs → sold_by bidder bs rs ≡ 0
  unfolding sold_by
  sold_none [] rs o = refl
  sold_none (b ∷ bs) [] o = refl
  sold_none (b ∷ bs) (r ∷ rs) o = rw (o.0, sold_none bs rs o.1)

  pub sold_at : (bs : List BidEntries) (i : ℕ) (rs : List ℕ) → Named bidder bs i → sold_by bidder bs rs ≡ get_or rs i 0
  unfolding sold_by
  sold_at (b ∷ bs) zero [] n = refl
  sold_at [] i rs n = elim n [ ]
  sold_at (b ∷ bs) zero (r ∷ rs) n = rw (n.0, sold_none bs rs n.1) (omega arith)
  sold_at (b ∷ bs) (suc i) [] n = refl
  sold_at (b ∷ bs) (suc i) (r ∷ rs) n = rw (n.0, sold_at bs i rs n.1) (omega arith)

  -- the bidder is in the book
  pub named_in : (bs : List BidEntries) (i : ℕ) → Named bidder bs i → any (is_of bidder) bs ≡ true
  unfolding any
  named_in (b ∷ bs) zero n = rw n.0
  named_in [] i n = elim n [ ]
  named_in (b ∷ bs) (suc i) n = rw n.0 (named_in bs i n.1)

-- one bidder has the bid
pub one_bidder : (a b : ℕ) (bs : List BidEntries) (i : ℕ) → Named a bs i → Named b bs i → a ≡ b
one_bidder a b (c ∷ bs) zero n m = sym (eqb-true c.bidder a n.0) ∙ eqb-true c.bidder b m.0
one_bidder a b [] i n m = elim n [ ]
one_bidder a b (c ∷ bs) (suc i) n m = one_bidder a b bs i n.1 m.1
