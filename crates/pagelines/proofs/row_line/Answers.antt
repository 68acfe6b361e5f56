-- The texts of the columns, one after the other, are the text of the row.
use Rattle.lines.proofs.Together.{together}
use Rattle.pagetext.specs.Page.{page_row}
use Rattle.pagelines.proofs.row_line.Goals as goal

pub returns : goal.returns
unfolding page_row
returns c = simp (together, c.without_shown-without.ensures)
