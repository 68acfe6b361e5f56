-- The text of money is its sign and right after it its magnitude with a point and two decimals.
use Rattle.forms.specs.Money.{decimal_text, money_text}
use Rattle.printer.proofs.Signs.{sign_decimals, puts_signed}
use Rattle.printer.proofs.Output.money.Goals as goal

pub returns-clause-puts : goal.returns-clause-puts
returns-clause-puts c = puts_signed money_text decimal_text _ _ sign_decimals c.magnitude.ensures c.sign.ensures.puts c.decimal.ensures.puts
