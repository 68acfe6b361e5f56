-- A proposed split: document 01, sections "Price and allocation" and "What is turned down".
use Rattle.std.specs.Prelude.{ℕ, ◌+◌, Bool, false, List, [], ◌∷◌, pos, Result, Ok, Err}
use Rattle.money.specs.declared.Cents.{Cents}
use Rattle.book.specs.Entries.{BidEntries, BookEntries}
use Rattle.book.specs.Rules.{book_verdict}
use Rattle.refusal.specs.Checks.{unless, first_of, when_accepted}
use Rattle.refusal.specs.declared.Rule.TheVariants.{SplitQuantity}
use Rattle.refusal.specs.declared.Refusal.{Refusal}
use Rattle.refusal.specs.Verdict.{Verdict, Accepted, Refused}
use Rattle.supply.specs.Supply.{supply_of, supplies_of, offers}
use Rattle.supply.specs.Allocation.{bought, cost_of}
use Rattle.supply.specs.Meets.{meets}
use Rattle.split.specs.declared.SplitPrice.{SplitPrice}

-- rule 11: the line of the first bid whose quantity is missing, or neither 0 nor on a segment; for a list too long and no
-- such bid, the line after the last bid
unfoldable pub quantities_verdict : ℕ → List BidEntries → List ℕ → Verdict
quantities_verdict line [] [] = Accepted
quantities_verdict line [] (r ∷ rs) = Refused SplitQuantity line
quantities_verdict line (b ∷ bs) [] = Refused SplitQuantity line
quantities_verdict line (b ∷ bs) (r ∷ rs) = first_of (unless (offers (supply_of b) r) SplitQuantity line ∷ quantities_verdict (line + 1) bs rs ∷ [])

-- the book's own refusal comes first
unfoldable pub split_verdict : BookEntries → List ℕ → Verdict
split_verdict b rs = first_of (book_verdict b ∷ quantities_verdict 2 b.bids rs ∷ [])

-- the price, and yes if and only if the quantities add up to at least the demand and at most demand plus allowance; price 0 and no
-- beside a refusal
unfoldable pub split_of : BookEntries → List ℕ → SplitPrice
split_of b rs = record {
  verdict = split_verdict b rs;
  price = record { 0 = when_accepted (split_verdict b rs) (cost_of (supplies_of b.bids) rs) (pos 0) };
  meets = when_accepted (split_verdict b rs) (meets b.order (bought rs)) false;
}

abbrev pub refused_split : Verdict → SplitPrice
refused_split verdict = record { verdict = verdict; price = record { 0 = pos 0 }; meets = false }

-- price and yes or no, or the refusal with price 0 and no
abbrev pub split_told : Result (Cents × Bool) Refusal → SplitPrice
split_told (Ok priced) = record { verdict = Accepted; price = priced.0; meets = priced.1 }
split_told (Err refusal) = refused_split (Err refusal)
