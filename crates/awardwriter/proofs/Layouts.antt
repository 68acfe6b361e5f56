-- The text of an award in each layout is its first line, and then the lines of its rows. Assumes nothing.
use mathlib.Core.List.{◌++◌}
use mathlib.Core.Path.{◌≡◌, refl}
use lib.ListN.{take}
use Rattle.lists.specs.Joined.{joined}
use Rattle.award.specs.declared.Award.{Award}
use Rattle.sheettext.specs.Sheet.{sheet_text}
use Rattle.pagetext.specs.Page.{page_text}
use Rattle.awardwriter.specs.declared.Layout.{Layout}
use Rattle.awardwriter.specs.declared.Layout.TheVariants.{Sheet, Page}
use Rattle.awardwriter.specs.Layout.{layout_text, layout_first, layout_row}

pub in_lines : (layout : Layout) (award : Award)
    → layout_first layout award ++ joined (layout_row layout) (take award.count award.rows) ≡ layout_text layout award
unfolding sheet_text page_text
in_lines Sheet award = refl
in_lines Page award = refl
