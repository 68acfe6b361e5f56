-- The first line, and then the rows, as the text of each layout is (`in_lines`).
use Rattle.printer.proofs.Puts.{puts_then, puts_as}
use Rattle.awardwriter.proofs.Layouts.{in_lines}
use Rattle.awardwriter.proofs.rows.LaidOutText.put.Goals as goal

pub returns : goal.returns
returns c =
    let laid = c.args.self.now in
    puts_as (in_lines laid.layout laid.award.now) (puts_then (puts_as c.first_line.ensures c.put.ensures.puts) c.put_rows.ensures)
