use Rattle.std.proofs.Common.{length, ◌-◌}
use Rattle.numerals.proofs.Numbers.{Digits}
use Rattle.numerals.proofs.number.Given as goal

-- the digits passed are those of the value
abbrev pub invariant-loop-digit : goal.invariant-loop-digit
invariant-loop-digit l = Digits l.least l.fn.reader l.value l.reader

abbrev pub decreases-loop-digit : goal.decreases-loop-digit
decreases-loop-digit l = length l.reader.text.now - l.reader.at
