-- The laws of change 7: what holds of books holds of texts, since a text is cleared as its book is. Assumes nothing.
use Prim.Native.Nat.{ℕ}
use Rattle.book.specs.Entries.{BookEntries}
use Rattle.pricechanges.specs.Discount.{Discounted}
use Rattle.pricechanges.specs.Raise.{Raised}
use Rattle.clearing.specs.declared.Clearing.{Clearing}
use Rattle.endtoend.proofs.Given.{book_passes, cleared_as_book}
use Rattle.endtoend.proofs.Loaded.{by_table}
use Rattle.pricetheorems.specs.Told.{NothingLost, NothingSaved, SameCover}
use Rattle.pricetheorems.specs.Struck.{Struck}
use Rattle.pricetheorems.specs.Laws.{OfBooks, OfTexts, OfTextsByTable, Law}
use Rattle.pricetheorems.proofs.Books.{discount_books, raise_books, raise_cover_books, strike_books}

module _ (R : BookEntries → BookEntries → Type 0) (P : Clearing → Clearing → Type 0) (law : OfBooks R P) where
  of_texts : OfTexts R P
  of_texts table t t' b b' is is' r =
      rw (cleared_as_book t b is table, cleared_as_book t' b' is' table) (law table b b' (book_passes t b is) (book_passes t' b' is') r)

  of_texts_by_table : OfTextsByTable R P
  of_texts_by_table s t t' e b b' passes is is' r = rw (by_table s e passes t, by_table s e passes t') (of_texts e t t' b b' is is' r)

  pub in_each_form : Law R P
  in_each_form = record { books = law; texts = of_texts; by_table = of_texts_by_table }

-- a discount of so many cents, of the bidder with index i
pub discount : (cents i : ℕ) → Law (Discounted cents i) (NothingLost i)
discount cents i = in_each_form (Discounted cents i) (NothingLost i) (discount_books cents i)

-- raised prices
pub raise : Law Raised NothingSaved
raise = in_each_form Raised NothingSaved raise_books

pub raise_cover : Law Raised SameCover
raise_cover = in_each_form Raised SameCover raise_cover_books

-- the bidder with index i struck
pub strike : (i : ℕ) → Law (Struck i) NothingSaved
strike i = in_each_form (Struck i) NothingSaved (strike_books i)
