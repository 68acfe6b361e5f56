use Rattle.std.proofs.Common.{◌≡◌, length}
use Rattle.numberline.proofs.Several.{Several}
use Rattle.numberline.proofs.spaced.Given as goal

-- the numbers before i have been read
abbrev pub invariant-loop-i : goal.invariant-loop-i
invariant-loop-i g l =
    record {
      full : length l.values ≡ g.row.N;
      several : Several l.fn.reader l.values l.reader l.i;
    }
