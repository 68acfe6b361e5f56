-- The page of an award (document 02, change 1): what the sheet shows, in columns. Each line is ended by byte 10.
use Rattle.std.specs.Prelude.{ℕ, List, [], ◌∷◌, ◌++◌, take}
use Rattle.lists.specs.Joined.{joined}
use Rattle.forms.specs.Bytes.{ascii}
use Rattle.forms.specs.Digits.{digits}
use Rattle.forms.specs.Money.{money_text}
use Rattle.forms.specs.Column.{right}
use Rattle.award.specs.declared.Total.{Total}
use Rattle.award.specs.declared.Total.TheVariants.{Amount, Nothing}
use Rattle.award.specs.declared.Row.{Row}
use Rattle.award.specs.declared.Award.{Award}

-- a column: how wide it is, and what is shown in it
abbrev pub Column : Type 0
Column = ℕ × List ℕ

-- all are set to the right with spaces before
abbrev pub column_text : Column → List ℕ
column_text (width, shown) = right width shown

abbrev pub line_text : List Column → List ℕ
line_text line = joined column_text line ++ ascii "\n"

-- a total without a bidder: an amount, or the word `none`
unfoldable pub page_total : Total → List ℕ
page_total (Amount cents) = money_text cents.0
page_total Nothing = ascii "none"

-- line one: demand, what is bought, and total price (document 02, change 5)
abbrev pub first_columns : Award → List Column
first_columns award = (20, digits award.demand.0) ∷ (20, digits award.bought.0) ∷ (24, money_text award.total.0) ∷ []

-- each bid: bidder, segment, quantity, price, blanks to sample, and the total without the bidder
abbrev pub row_columns : Row → List Column
row_columns row =
    (6, digits row.bidder)
    ∷ (4, digits row.segment)
    ∷ (10, digits row.quantity.0)
    ∷ (20, money_text row.price.0)
    ∷ (6, digits row.sample.0)
    ∷ (18, page_total row.without)
    ∷ []

unfoldable pub page_first : Award → List ℕ
page_first award = line_text (first_columns award)

unfoldable pub page_row : Row → List ℕ
page_row row = line_text (row_columns row)

-- the first line, and then a line for every bid, in book order
unfoldable pub page_text : Award → List ℕ
page_text award = page_first award ++ joined page_row (take award.count award.rows)
