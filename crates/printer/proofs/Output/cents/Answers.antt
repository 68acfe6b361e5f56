-- The text of a price is its sign and right after it its magnitude's digits.
use Rattle.forms.specs.Digits.{digits, signed_digits}
use Rattle.printer.proofs.Signs.{sign_digits, puts_signed}
use Rattle.printer.proofs.Output.cents.Goals as goal

pub returns-clause-puts : goal.returns-clause-puts
returns-clause-puts c = puts_signed signed_digits digits _ _ sign_digits c.magnitude.ensures c.sign.ensures.puts c.number.ensures.puts
