-- The laws of change 7, of any two accepted books. Assumes nothing.
use Prim.Native.Nat.{ℕ}
use mathlib.Core.Path.{sym, subst}
use Rattle.book.specs.Entries.{BookEntries}
use Rattle.supply.specs.Supply.{supplies_of}
use Rattle.divisions.specs.NoDearer.{BookNoDearer}
use Rattle.divisions.proofs.Dominance.{dominance, dominance_none}
use Rattle.pricechanges.specs.Discount.{Discounted}
use Rattle.pricechanges.specs.Raise.{Raised}
use Rattle.pricechanges.proofs.Discount.{discount_sells, discount_raised}
use Rattle.pricechanges.proofs.Raise.{raise_divisions, raise_no_dearer}
use Rattle.pricechanges.proofs.Strike.{strike_no_dearer}
use Rattle.without.specs.Without.{book_without}
use Rattle.awardtheorems.proofs.Cleared.{not_covered_iff}
use Rattle.pricetheorems.specs.Told.{NothingLost, NothingSaved, SameCover}
use Rattle.pricetheorems.specs.Struck.{Struck}
use Rattle.pricetheorems.specs.Laws.{OfBooks}
use Rattle.pricetheorems.proofs.Answers.{award, is_award, total_is, no_fewer}

-- from the law of dominance: where every division of the second book has one of the first that costs no more
pub dominated : (R : BookEntries → BookEntries → Type 0) → ((b b' : BookEntries) → R b b' → BookNoDearer b b') → OfBooks R NothingSaved
dominated R h table b b' accepted accepted' r = record {
  uncovered = λ u.
      (not_covered_iff b' table accepted').1
      (dominance_none b.order (supplies_of b.bids) b'.order (supplies_of b'.bids) (h b b' r) ((not_covered_iff b table accepted).0 u));
  total = λ c c'.
      rw (total_is table b c, total_is table b' c')
      (dominance b.order (supplies_of b.bids) b'.order (supplies_of b'.bids) (h b b' r)
      (award table b c) (award table b' c') (is_award table b c) (is_award table b' c'));
}

pub raise_books : OfBooks Raised NothingSaved
raise_books = dominated Raised raise_no_dearer

pub raise_cover_books : OfBooks Raised SameCover
raise_cover_books table b b' accepted accepted' r =
    let (to, from) = not_covered_iff b table accepted in
    let (to', from') = not_covered_iff b' table accepted' in
    (λ u. from' (λ rs d. to u rs ((raise_divisions b b' r rs).1 d)), λ u. from (λ rs d. to' u rs ((raise_divisions b b' r rs).0 d)))

without_no_dearer : (i : ℕ) (b b' : BookEntries) → Struck i b b' → BookNoDearer b b'
unfolding book_without
without_no_dearer i b b' s = subst (BookNoDearer b) (sym s.rest) (strike_no_dearer b.order b.bids i s.bid)

pub strike_books : (i : ℕ) → OfBooks (Struck i) NothingSaved
strike_books i = dominated (Struck i) (without_no_dearer i)

-- a discount taken back is a raise, so only the bidder's blanks are left to show
pub discount_books : (cents i : ℕ) → OfBooks (Discounted cents i) (NothingLost i)
discount_books cents i table b b' accepted accepted' d =
    let raised = discount_raised cents i b b' d in
    let (to, from) = raise_cover_books table b' b accepted' accepted raised in
    record {
      cover = (from, to);
      blanks = λ c c'.
          no_fewer table b b' c c' i
          (discount_sells cents i b b' d (award table b c) (award table b' c') (is_award table b c) (is_award table b' c'));
      total = λ c c'. (raise_books table b' b accepted' accepted raised).total c' c;
    }
