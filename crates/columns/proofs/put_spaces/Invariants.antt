use Rattle.std.proofs.Common.{◌≡◌, ◌+◌}
use lib.ListN.{replicate}
use Rattle.printer.specs.Puts.{Puts}
use Rattle.columns.proofs.put_spaces.Given as goal

abbrev pub invariant-loop : goal.invariant-loop
invariant-loop l = record {
  place : l.out.at ≡ l.initial.out.at + l.counter;
  puts : Puts l.initial.out (replicate l.counter 32) l.out;
}
