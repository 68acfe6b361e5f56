-- The machine's test of the price tells its sign: `-` is put, or nothing.
use Rattle.std.proofs.Common.{sym, rules}
use Rattle.printer.proofs.Puts.{puts_none, puts_as}
use Rattle.printer.proofs.Signs.{negative, unsigned}
use Rattle.printer.proofs.Output.sign.Goals as goal

pub returns-then-price-lt0-clause-puts : goal.returns-then-price-lt0-clause-puts
returns-then-price-lt0-clause-puts c = puts_as (sym (negative _ (search rules) c.if-price-lt0.true)) c.word.ensures.puts

pub returns-else-price-lt0-clause-puts : goal.returns-else-price-lt0-clause-puts
returns-else-price-lt0-clause-puts c = puts_as (sym (unsigned _ (search rules) c.if-price-lt0.false)) (puts_none _)
