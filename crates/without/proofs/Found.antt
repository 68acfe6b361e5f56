-- The total without a bidder, from what the search found. Assumes nothing.
use Prim.Native.Nat.{ℕ}
use mathlib.Core.Path.{◌≡◌, ap, ◌∙◌}
use Rattle.std.specs.Prelude.{Some, None}
use Rattle.book.specs.declared.Book.{Book}
use Rattle.book.specs.Entries.{BookEntries, book_entries}
use Rattle.supply.specs.Supply.{supplies_of}
use Rattle.divisions.specs.Award.{award_of, award_of_book}
use Rattle.comparison.specs.declared.PricedDivision.{PricedDivision}
use Rattle.comparison.specs.Records.{found}
use Rattle.award.specs.declared.Total.TheVariants.{Amount, Nothing}
use Rattle.without.specs.Without.{book_without, total_of, total_without}

-- The search's answer for a record that holds the book less the bid with index `at`: a division, or that there is none.
module _ (book : Book) (b : BookEntries) (at : ℕ) (less : book_entries book ≡ book_without at b) where
  pub total_amount : (best : PricedDivision) → found book.count (Some best) ≡ award_of book.order (supplies_of (book_entries book).bids)
      → Amount best.cost ≡ total_without b at
  unfolding total_without award_of_book
  total_amount best searched = ap total_of searched ∙ ap (λ (c : BookEntries). total_of (award_of_book c)) less

  pub total_nothing : found book.count None ≡ award_of book.order (supplies_of (book_entries book).bids) → Nothing ≡ total_without b at
  unfolding total_without award_of_book
  total_nothing searched = ap total_of searched ∙ ap (λ (c : BookEntries). total_of (award_of_book c)) less
