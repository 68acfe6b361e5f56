-- What the search finds for the book with a discount, and whether the bidder sells something in it. Assumes nothing.
use Prim.Native.Nat.{ℕ, ◌<◌}
use native.Mathlib.Omega.{arith}
use mathlib.Core.Bool.{false}
use mathlib.Core.Option.{some, none}
use mathlib.Core.Path.{◌≡◌, sym, ap, ◌∙◌, subst}
use lib.Dec.{leb, ltb}
use Rattle.std.specs.Prelude.{Option, Some, None}
use lib.ListN.{length, get_or, take}
use Rattle.refusal.specs.Verdict.{Accepted}
use Rattle.book.specs.declared.Book.{Book}
use Rattle.book.specs.Entries.{BidEntries, BookEntries, bid_entries, book_entries}
use Rattle.book.specs.Rules.{book_verdict}
use Rattle.book.proofs.Records.{no_bid}
use Rattle.book.proofs.Bids.{entry_at}
use Rattle.supply.specs.Supply.{supplies_of}
use Rattle.divisions.specs.Award.{award_of, award_of_book}
use Rattle.comparison.specs.declared.PricedDivision.{PricedDivision}
use Rattle.comparison.specs.Records.{blanks_in, division_in, found}
use Rattle.search.specs.Searchable.{Searchable}
use Rattle.search.proofs.Found.{searchable, quantity_at}
use Rattle.discount.specs.Discount.{book_off, leaves_accepted}
use Rattle.discount.specs.Asked.{CanTake, TakenOff, Largest}
use Rattle.discount.proofs.Bidder.{named_record}
use Rattle.discount.proofs.Leaves.{leaves_up_to, leaves_accepted_lem}
use Rattle.toodear.specs.TooDear.{sells_in, sells_with}
use Rattle.toodear.specs.Asked.{ForBidder, AwardOff, SellsOff}
use Rattle.toodear.proofs.Sold.{sold_at}

module _ (book : Book) (at cents : ℕ) where
  -- the book with the discount is accepted, so it can be searched
  pub searchable_off : CanTake book at cents → (changed : Book) → TakenOff book at cents changed → Searchable (book_entries changed)
  searchable_off can changed taken =
      rw (taken can.bidder can.named)
      (searchable (book_off (book_entries book) can.bidder cents) (leaves_accepted_lem (book_entries book) can.bidder cents can.leaves))

  pub award_off : (changed : Book) (r : Option PricedDivision) → TakenOff book at cents changed
      → found changed.count r ≡ award_of changed.order (supplies_of (book_entries changed).bids) → AwardOff book at cents r
  unfolding award_of_book book_off
  award_off changed r taken searched bidder named =
      let same = taken bidder named in
      let count : changed.count ≡ book.count = ap (λ (b : BookEntries). b.count) same in
      ap (λ (n : ℕ). found n r) (sym count) ∙ searched ∙ ap award_of_book same

  -- no award
  module _ (is : AwardOff book at cents None) where
    pub no_award_lem : ForBidder book at (λ bidder. award_of_book (book_off (book_entries book) bidder cents) ≡ none)
    no_award_lem bidder named = sym (is bidder named)

    pub sells_none : SellsOff book at cents false
    unfolding sells_with
    sells_none bidder named = ap (sells_in bidder (book_entries book).bids) (is bidder named)

  -- an award
  module _ (best : PricedDivision) (is : AwardOff book at cents (Some best)) where
    pub an_award : ForBidder book at (λ bidder. award_of_book (book_off (book_entries book) bidder cents) ≡ some (division_in book.count best))
    an_award bidder named = sym (is bidder named)

    pub sells_some : at < book.count → SellsOff book at cents (ltb 0 (get_or best.quantities at (record { 0 = 0 })).0)
    unfolding sells_with
    sells_some h bidder named =
        let quantity =
        sold_at bidder (book_entries book).bids at (take book.count (blanks_in best.quantities)) named
        ∙ quantity_at book.count best.quantities at h in
        ap (ltb 0) (sym quantity) ∙ ap (sells_in bidder (book_entries book).bids) (is bidder named)

-- the discounts that leave an accepted book, by the largest of the bid
pub leaves_of : (book : Book) (at most : ℕ) → book_verdict (book_entries book) ≡ Accepted → length book.bids ≡ 8
    → Largest (bid_entries (get_or book.bids at no_bid)) most
    → ForBidder book at (λ bidder. (cents : ℕ) → leaves_accepted (book_entries book) bidder cents ≡ leb cents most)
leaves_of book at most accepted held largest bidder named =
    let (within, few) = named_record book bidder at accepted held named in
    let entry = entry_at book.bids book.count (omega arith) at within in
    leaves_up_to (book_entries book) bidder at (bid_entries no_bid) accepted named most (subst (λ (b : BidEntries). Largest b most) (sym entry) largest)
