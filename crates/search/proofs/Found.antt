-- What the search asks of a book an accepted book has, and what it finds is the award. Assumes nothing.
use Prim.Native.Nat.{ℕ, ◌<◌}
use mathlib.Core.List.{List}
use mathlib.Core.Option.{some, none}
use Rattle.std.specs.Prelude.{Option, Some, None}
use mathlib.Core.Path.{◌≡◌, sym, ◌∙◌}
use lib.ListN.{get_or, take, get_or-map}
use lib.Seq.{get_or-take}
use Rattle.money.specs.declared.Blanks.{Blanks}
use Rattle.refusal.specs.Verdict.{Accepted}
use Rattle.book.specs.declared.Book.{Book}
use Rattle.book.specs.Entries.{BookEntries, book_entries}
use Rattle.book.specs.Rules.{book_verdict}
use Rattle.book.proofs.Accepted.{book_accepted, all_accepted}
use Rattle.supply.specs.Supply.{supplies_of}
use Rattle.divisions.specs.Award.{award_of, award_of_book}
use Rattle.comparison.specs.declared.PricedDivision.{PricedDivision}
use Rattle.comparison.specs.Records.{blanks_in, division_in, found}
use Rattle.search.specs.Searchable.{Searchable}

pub searchable : (b : BookEntries) → book_verdict b ≡ Accepted → Searchable b
searchable b accepted = record { few = (book_accepted b accepted).count_high; bids = all_accepted b accepted }

-- the quantity of the bidder with index i in the division of n bidders
pub quantity_at : (n : ℕ) (quantities : List Blanks) (i : ℕ) → i < n → get_or (take n (blanks_in quantities)) i 0 ≡ (get_or quantities i (record { 0 = 0 })).0
quantity_at n quantities i h =
    get_or-take n (blanks_in quantities) i 0 h ∙ get_or-map (λ (b : Blanks). b.0) quantities i (record { 0 = 0 })

-- The search's answer: a division, or that there is none.
module _ (book : Book) (best : Option PricedDivision) (searched : found book.count best ≡ award_of book.order (supplies_of (book_entries book).bids)) where
  pub award_some : (kept : PricedDivision) → best ≡ Some kept → award_of_book (book_entries book) ≡ some (division_in book.count kept)
  unfolding award_of_book
  award_some kept h = sym searched ∙ rw h

  pub award_none : best ≡ None → award_of_book (book_entries book) ≡ none
  unfolding award_of_book
  award_none h = sym searched ∙ rw h
