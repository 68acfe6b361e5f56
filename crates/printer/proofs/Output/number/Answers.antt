-- Where the digits fit, they are written into the part of the output from the place on; else only the place moves.
use Rattle.std.proofs.Common.{◌≡◌, ◌+◌, length, arith}
use Rattle.forms.specs.Digits.{digits}
use Rattle.printer.proofs.Puts.{puts_stored, puts_past}
use Rattle.printer.proofs.Written.{part_back}
use Rattle.printer.proofs.Output.number.Goals as goal
use Rattle.printer.proofs.Output.number.Goals.{then-next-self, else-next-self}

pub returns-clause-puts : goal.returns-clause-puts
returns-clause-puts c =
    let out = c.args.self.now in
    let next : out.at + c.digit_count.result ≡ out.at + length (digits c.args.n) = omega arith in
    elim c.if-next-self.branch [
      | then-next-self w ↦ rw w.self-is
          (puts_stored out (digits c.args.n) _ _ (omega arith)
          (next, (part_back out.bytes.now out.at (digits c.args.n) _ _ (omega arith) w.write_digits.ensures).1))
      | else-next-self w ↦ rw w.self-is (puts_past out (digits c.args.n) _ next w.if-next-self.false)
    ]
