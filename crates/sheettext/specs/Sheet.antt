-- The award sheet (document 01, section "The sheet"): one form a line, each line ended by byte 10.
use Rattle.std.specs.Prelude.{ℕ, List, ◌++◌, take}
use Rattle.lists.specs.Joined.{joined}
use Rattle.forms.specs.Bytes.{ascii}
use Rattle.forms.specs.Digits.{digits, signed_digits}
use Rattle.refusal.specs.Number.{number_of, place_of}
use Rattle.refusal.specs.Verdict.{Verdict}
use Rattle.award.specs.declared.Total.{Total}
use Rattle.award.specs.declared.Total.TheVariants.{Amount, Nothing}
use Rattle.award.specs.declared.Row.{Row}
use Rattle.award.specs.declared.Award.{Award}

-- a total without a bidder: an amount, or the word `none`
unfoldable pub total_text : Total → List ℕ
total_text (Amount cents) = signed_digits cents.0
total_text Nothing = ascii "none"

-- bidder, segment, quantity, price, blanks to sample, and the total without the bidder
unfoldable pub row_text : Row → List ℕ
row_text row =
    ascii "(buy " ++ digits row.bidder
    ++ ascii " " ++ digits row.segment
    ++ ascii " " ++ digits row.quantity.0
    ++ ascii " " ++ signed_digits row.price.0
    ++ ascii " " ++ digits row.sample.0
    ++ ascii " (without " ++ total_text row.without
    ++ ascii "))\n"

-- demand, what is bought, and total price (document 02, change 5)
unfoldable pub first_text : Award → List ℕ
first_text award =
    ascii "(award " ++ digits award.demand.0
    ++ ascii " " ++ digits award.bought.0
    ++ ascii " " ++ signed_digits award.total.0
    ++ ascii ")\n"

-- and then a line for every bid, in book order
unfoldable pub sheet_text : Award → List ℕ
sheet_text award = first_text award ++ joined row_text (take award.count award.rows)

-- the one line of a refusal: number and place
unfoldable pub refusal_text : Verdict → List ℕ
refusal_text verdict = ascii "(refused " ++ digits (number_of verdict) ++ ascii " " ++ digits (place_of verdict) ++ ascii ")\n"
