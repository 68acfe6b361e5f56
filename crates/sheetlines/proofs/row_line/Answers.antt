-- The texts of the parts, one after the other, are the text of the row.
use Rattle.lines.proofs.Together.{together}
use Rattle.sheettext.specs.Sheet.{row_text}
use Rattle.sheetlines.proofs.row_line.Goals as goal

pub returns : goal.returns
unfolding row_text
returns c = simp (together, c.without_part-without.ensures)
