-- A word, and right after it a number or a price, as the text of the part is.
use Rattle.printer.proofs.Puts.{puts_then}
use Rattle.lines.proofs.put_part.Goals as goal

pub returns-in-Number-clause-puts : goal.returns-in-Number-clause-puts
returns-in-Number-clause-puts c = rw c.in-Number.is (puts_then c.put-in-Number.ensures.puts c.number.ensures.puts)

pub returns-in-Price-clause-puts : goal.returns-in-Price-clause-puts
returns-in-Price-clause-puts c = rw c.in-Price.is (puts_then c.put-in-Price.ensures.puts c.cents.ensures.puts)
