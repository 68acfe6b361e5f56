-- Where the word fits, the part of the output that it takes is the word; else only the place moves.
use Rattle.std.proofs.Common.{refl, arith}
use Rattle.printer.proofs.Put.{placed_not, placed_put}
use Rattle.printer.proofs.Puts.{puts_stored, puts_past}
use Rattle.printer.proofs.Written.{written_part}
use Rattle.printer.proofs.Output.word.Goals as goal
use Rattle.printer.proofs.Output.word.Goals.{then-next-self, else-next-self}

pub returns-clause-puts : goal.returns-clause-puts
returns-clause-puts c =
    let out = c.args.self.now in
    elim c.if-next-self.branch [
      | then-next-self w ↦ rw w.self-is
          (puts_stored out c.args.w.now _ _ w.if-next-self.true
          (refl, written_part out.bytes.now out.at _ c.args.w.now _ (omega arith) w.copy.ensures))
      | else-next-self w ↦ rw w.self-is (puts_past out c.args.w.now _ refl w.if-next-self.false)
    ]

pub returns-clause-out_after : goal.returns-clause-out_after
returns-clause-out_after c =
    let out = c.args.self.now in
    elim c.if-next-self.branch [
      | then-next-self w ↦ rw w.self-is
          (placed_put out.bytes.now out.at c.args.w.now _ _ w.if-next-self.true
          (refl, λ _. written_part out.bytes.now out.at _ c.args.w.now _ (omega arith) w.copy.ensures))
      | else-next-self w ↦ rw w.self-is (placed_not out.bytes.now out.at c.args.w.now w.if-next-self.false)
    ]
