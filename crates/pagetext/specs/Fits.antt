-- What holds of every page of a cleared book (document 02, change 1): no column is too narrow, and a page is lines of 64 bytes and byte 10.
use Rattle.std.specs.Prelude.{ℕ, ◌≤◌, List, ◌++◌, ◌≡◌, length, take}
use Rattle.lists.specs.All.{All}
use Rattle.lists.specs.Joined.{joined}
use Rattle.forms.specs.Bytes.{ascii}
use Rattle.award.specs.declared.Row.{Row}
use Rattle.award.specs.declared.Award.{Award}
use Rattle.pagetext.specs.Page.{Column, first_columns, row_columns}

-- a column is wide enough
abbrev pub Fits : Column → Type 0
Fits (width, shown) = length shown ≤ width

abbrev pub RowFits : Row → Type 0
RowFits row = All Fits (row_columns row)

-- the rows of the bids
abbrev pub rows_shown : Award → List Row
rows_shown award = take award.count award.rows

pub record PageFits (award : Award) : Type 0 where
  pub first : All Fits (first_columns award)
  pub rows : All RowFits (rows_shown award)

-- 64 bytes, none of them byte 10, and then byte 10
pub record PageLine (line : List ℕ) : Type 0 where
  pub bytes : List ℕ
  pub many : length bytes ≡ 64
  pub no_end : All (λ (b : ℕ). b ≡ 10 → ⊥) bytes
  pub is : line ≡ bytes ++ ascii "\n"

-- n such lines, one after the other
pub record PageLines (n : ℕ) (page : List ℕ) : Type 0 where
  pub lines : List (List ℕ)
  pub many : length lines ≡ n
  pub each : All PageLine lines
  pub is : page ≡ joined (λ (line : List ℕ). line) lines
