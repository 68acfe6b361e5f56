-- How much too dear a bidder was: document 02, change 8. Nothing here depends on how the number is found.
use Rattle.std.specs.Prelude.{ℕ, ◌+◌, Bool, true, false, cond, ◌&&◌, List, [], ◌∷◌, ltb}
use Rattle.std.specs.Prelude.{Option, Some, None, Result, Ok, Err}
use Rattle.std.proofs.Math.Option.{Option as Maybe, some, none}
use Rattle.money.specs.declared.CentsPerBlank.{CentsPerBlank}
use Rattle.lists.specs.Any.{any}
use Rattle.lists.specs.Least.{first_from}
use Rattle.refusal.specs.Checks.{unless, first_of, when_accepted}
use Rattle.refusal.specs.declared.Rule.TheVariants.{NotCovered, UnknownBidder}
use Rattle.refusal.specs.declared.Refusal.{Refusal}
use Rattle.refusal.specs.Verdict.{Verdict, Accepted}
use Rattle.book.specs.Entries.{BidEntries, BookEntries}
use Rattle.book.specs.Rules.{book_verdict}
use Rattle.divisions.specs.Award.{Priced, award_of_book}
use Rattle.discount.specs.Discount.{is_of, book_off, leaves_accepted}
use Rattle.toodear.specs.declared.TooDear.{TooDear}

-- how many of these quantities, one for each bid, are the bidder's
unfoldable pub sold_by : ℕ → List BidEntries → List ℕ → ℕ
sold_by bidder [] rs = 0
sold_by bidder (b ∷ bs) [] = 0
sold_by bidder (b ∷ bs) (r ∷ rs) = cond (is_of bidder b) r 0 + sold_by bidder bs rs

-- whether the bidder sells at least one blank in an award, if there is one
abbrev pub sells_in : ℕ → List BidEntries → Maybe Priced → Bool
sells_in bidder bids none = false
sells_in bidder bids (some award) = ltb 0 (sold_by bidder bids award.quantities)

-- whether it sells at least one with so many cents off
unfoldable pub sells_with : BookEntries → ℕ → ℕ → Bool
sells_with b bidder cents = sells_in bidder b.bids (award_of_book (book_off b bidder cents))

-- whether so many cents leave an accepted book and win the bidder at least one blank
unfoldable pub wins_with : BookEntries → ℕ → ℕ → Bool
wins_with b bidder cents = leaves_accepted b bidder cents && sells_with b bidder cents

-- the smallest number of cents, from 0 to the largest unit price there is: more can be taken off none
unfoldable pub smallest_off : BookEntries → ℕ → Maybe ℕ
smallest_off b bidder = first_from (wins_with b bidder) 0 1000001

-- an amount, or `none` where there is no such number
abbrev pub discount_of : Maybe ℕ → Option CentsPerBlank
discount_of none = None
discount_of (some cents) = Some (record { 0 = cents })

abbrev pub covers : Maybe Priced → Bool
covers none = false
covers (some award) = true

-- the book's own refusals, then 13 for a bidder who is not in the book, then 9
unfoldable pub too_dear_verdict : BookEntries → ℕ → Verdict
too_dear_verdict b bidder =
    first_of
    (book_verdict b
    ∷ unless (any (is_of bidder) b.bids) UnknownBidder 0
    ∷ unless (covers (award_of_book b)) NotCovered 0
    ∷ [])

-- `none`, beside any verdict
abbrev pub no_amount : Verdict → TooDear
no_amount verdict = record { verdict = verdict; discount = None }

-- a discount, if one wins, or the refusal with none
abbrev pub too_dear_told : Result (Option CentsPerBlank) Refusal → TooDear
too_dear_told (Ok discount) = record { verdict = Accepted; discount = discount }
too_dear_told (Err refusal) = no_amount (Err refusal)

unfoldable pub too_dear_of : BookEntries → ℕ → TooDear
too_dear_of b bidder = record {
  verdict = too_dear_verdict b bidder;
  discount = when_accepted (too_dear_verdict b bidder) (discount_of (smallest_off b bidder)) None;
}

-- a discount as two numbers, for C: 1 and the amount, or 0 and 0 for `none`
abbrev pub is_amount : Option CentsPerBlank → ℕ
is_amount (Some cents) = 1
is_amount None = 0

abbrev pub amount_of : Option CentsPerBlank → ℕ
amount_of (Some cents) = cents.0
amount_of None = 0
