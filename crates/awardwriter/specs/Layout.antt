-- An award as text, in each of its layouts.
use Rattle.std.specs.Prelude.{ℕ, List}
use Rattle.award.specs.declared.Row.{Row}
use Rattle.award.specs.declared.Award.{Award}
use Rattle.sheettext.specs.Sheet.{first_text, row_text, sheet_text}
use Rattle.pagetext.specs.Page.{page_first, page_row, page_text}
use Rattle.awardwriter.specs.declared.Layout.{Layout}
use Rattle.awardwriter.specs.declared.Layout.TheVariants.{Sheet, Page}

abbrev pub layout_text : Layout → Award → List ℕ
layout_text Sheet = sheet_text
layout_text Page = page_text

-- For the contracts of the functions that write it line by line: its first line, and the line of a row.

abbrev pub layout_first : Layout → Award → List ℕ
layout_first Sheet = first_text
layout_first Page = page_first

abbrev pub layout_row : Layout → Row → List ℕ
layout_row Sheet = row_text
layout_row Page = page_row
