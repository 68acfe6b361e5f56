-- The rows of an award as numbers, for C. No amount of an award is negative (endtoend/proofs/Fits.antt: `text_row_up_to`), so that no
-- sign is lost.
use Rattle.std.specs.Prelude.{ℕ, ◌*◌, ◌≤◌, List, [], ◌∷◌, nat_abs, length, take}
use Rattle.lists.specs.Joined.{joined}
use Rattle.award.specs.declared.Total.{Total}
use Rattle.award.specs.declared.Total.TheVariants.{Amount, Nothing}
use Rattle.award.specs.declared.Row.{Row}
use Rattle.award.specs.declared.Award.{Award}

-- a total without a bidder as two numbers: 1 and the amount, or 0 and 0 for `none`
abbrev pub covered : Total → ℕ
covered (Amount cents) = 1
covered Nothing = 0

abbrev pub amount : Total → ℕ
amount (Amount cents) = nat_abs cents.0
amount Nothing = 0

-- bidder, segment, quantity, price, blanks to sample, and the total without the bidder
unfoldable pub row_numbers : Row → List ℕ
row_numbers row =
    row.bidder
    ∷ row.segment
    ∷ row.quantity.0
    ∷ nat_abs row.price.0
    ∷ row.sample.0
    ∷ covered row.without
    ∷ amount row.without
    ∷ []

-- the rows of all bids, in book order
unfoldable pub award_numbers : Award → List ℕ
award_numbers award = joined row_numbers (take award.count award.rows)

-- what `put_rows` asks: the record holds each row that it counts, and the list is as long as the numbers of all
pub record RowsFit (award : Award) (rows : List ℕ) : Type 0 where
  pub held : award.count ≤ 8
  pub fits : 7 * award.count ≤ length rows
