-- For the contracts of this crate, but for the entry's: what its functions ask, and what they tell.
use Rattle.std.specs.Prelude.{ℕ, ◌≤◌, ◌<◌, Bool, true, List, length, ◌≡◌, ◌≢◌, leb, Option, Result}
use Rattle.std.specs.List.{All, HoldsAt}
use Rattle.std.specs.Option.{MatchOption}
use Rattle.lists.specs.Least.{Least}
use Rattle.money.specs.declared.CentsPerBlank.{CentsPerBlank}
use Rattle.refusal.specs.declared.Refusal.{Refusal}
use Rattle.refusal.specs.Verdict.{Accepted}
use Rattle.book.specs.declared.Bid.{Bid}
use Rattle.book.specs.declared.Book.{Book}
use Rattle.book.specs.Entries.{book_entries}
use Rattle.book.specs.Rules.{book_verdict}
use Rattle.divisions.specs.Award.{award_of_book}
use Rattle.comparison.specs.declared.PricedDivision.{PricedDivision}
use Rattle.comparison.specs.Records.{found}
use Rattle.discount.specs.Discount.{book_off, leaves_accepted}
use Rattle.discount.specs.Named.{Named}
use Rattle.toodear.specs.TooDear.{sells_with, wins_with, too_dear_told, too_dear_of}

-- where a bid of the bidder stands among these, if one does
abbrev pub PlaceOf : ℕ → List Bid → Option ℕ → Type 0
PlaceOf bidder bids r = MatchOption r (All (λ b. b.bidder ≢ bidder) bids) (λ i. (i < length bids) × HoldsAt (λ b. b.bidder ≡ bidder) bids i)

-- an accepted book, and the index of a bidder's bid
pub record NamedBid (book : Book) (at : ℕ) : Type 0 where
  pub bidder : ℕ
  pub accepted : book_verdict (book_entries book) ≡ Accepted
  pub named : Named bidder (book_entries book).bids at

-- what holds of the bidder whose bid has that index
abbrev pub ForBidder : Book → ℕ → (ℕ → Type 0) → Type 0
ForBidder book at P = (bidder : ℕ) → Named bidder (book_entries book).bids at → P bidder

-- the award with so many cents off, if there is one
abbrev pub AwardOff : Book → ℕ → ℕ → Option PricedDivision → Type 0
AwardOff book at cents r = ForBidder book at (λ bidder. found book.count r ≡ award_of_book (book_off (book_entries book) bidder cents))

-- whether it sells something then
abbrev pub SellsOff : Book → ℕ → ℕ → Bool → Type 0
SellsOff book at cents r = ForBidder book at (λ bidder. r ≡ sells_with (book_entries book) bidder cents)

-- what `smallest` asks: the discounts that leave an accepted book are those up to `most`, at most 1,000,000, and that one wins
pub record Winnable (book : Book) (at most : ℕ) : Type 0 where
  pub bid : NamedBid book at
  pub leaves : (cents : ℕ) → leaves_accepted (book_entries book) bid.bidder cents ≡ leb cents most
  pub small : most ≤ 1000000
  pub sells : sells_with (book_entries book) bid.bidder most ≡ true

-- what it gives
abbrev pub SmallestOff : Book → ℕ → ℕ → Type 0
SmallestOff book at r = ForBidder book at (λ bidder. Least (wins_with (book_entries book) bidder) r)

abbrev pub AnswerFor : Book → ℕ → Result (Option CentsPerBlank) Refusal → Type 0
AnswerFor book at r = ForBidder book at (λ bidder. too_dear_told r ≡ too_dear_of (book_entries book) bidder)
