-- A page read back by its columns (document 02, change 1: "Read as numbers, money in cents, the columns give the sheet's again"). What is
-- read is an award's record. It is a definition for the theorems alone: no entry reads pages.
use Rattle.std.specs.Prelude.{ℕ, zero, suc, ◌+◌, ◌*◌, ◌-◌, ◌/◌, Bool, true, false, cond, ◌&&◌, List, [], ◌∷◌, map, eqb, pos, length, take, drop}
use Rattle.lists.specs.Padded.{padded}
use Rattle.forms.specs.Bytes.{ascii}
use Rattle.award.specs.declared.Total.{Total}
use Rattle.award.specs.declared.Total.TheVariants.{Amount, Nothing}
use Rattle.award.specs.declared.Row.{Row}
use Rattle.award.specs.declared.Award.{Award}
use Rattle.award.specs.Award.{no_row}

-- the spaces before it skipped
unfoldable pub unspaced : List ℕ → List ℕ
unspaced [] = []
unspaced (b ∷ s) = cond (eqb b 32) (unspaced s) (b ∷ s)

-- n, and then these digits
unfoldable pub read_on : ℕ → List ℕ → ℕ
read_on n [] = n
read_on n (b ∷ s) = read_on (n * 10 + (b - 48)) s

-- the number in a column
unfoldable pub number_in : List ℕ → ℕ
number_in column = read_on 0 (unspaced column)

-- money in cents: its last two digits stand after a point, those before it are hundreds of cents
unfoldable pub cents_in : List ℕ → ℕ
cents_in column = number_in (take (length column - 3) column) * 100 + number_in (drop (length column - 2) column)

-- byte by byte
unfoldable pub same_text : List ℕ → List ℕ → Bool
same_text [] [] = true
same_text [] (b ∷ t) = false
same_text (a ∷ s) [] = false
same_text (a ∷ s) (b ∷ t) = eqb a b && same_text s t

-- a total without a bidder: the word `none`, or an amount
unfoldable pub total_in : List ℕ → Total
total_in column = cond (same_text (unspaced column) (ascii "none")) Nothing (Amount (record { 0 = pos (cents_in column) }))

-- so many columns of a line, from a place on
abbrev pub columns : ℕ → ℕ → List ℕ → List ℕ
columns from width line = take width (drop from line)

unfoldable pub row_in : List ℕ → Row
row_in line = record {
  bidder = number_in (columns 0 6 line);
  segment = number_in (columns 6 4 line);
  quantity = record { 0 = number_in (columns 10 10 line) };
  price = record { 0 = pos (cents_in (columns 20 20 line)) };
  sample = record { 0 = number_in (columns 40 6 line) };
  without = total_in (columns 46 18 line);
}

-- the first n lines of a text: 64 bytes and byte 10 each
unfoldable pub lines_in : ℕ → List ℕ → List (List ℕ)
lines_in zero page = []
lines_in (suc n) page = take 65 page ∷ lines_in n (drop 65 page)

-- the first line has demand, what is bought and total, every other one a bid; rows past the bids hold zeros and `none`
unfoldable pub award_in : List ℕ → Award
award_in page = record {
  demand = record { 0 = number_in (columns 0 20 page) };
  bought = record { 0 = number_in (columns 20 20 page) };
  total = record { 0 = pos (cents_in (columns 40 24 page)) };
  count = length page / 65 - 1;
  rows = padded 8 no_row (map row_in (lines_in (length page / 65 - 1) (drop 65 page)));
}
