use Rattle.scanner.proofs.Words.{Along}
use Rattle.scanner.proofs.Reader.word.Given as goal

-- the bytes passed are those of the word
abbrev pub invariant-loop-b : goal.invariant-loop-b
invariant-loop-b l = Along l.w l.fn.self l.b-index l.self
