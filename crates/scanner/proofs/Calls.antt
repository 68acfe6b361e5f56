-- A call of a function that parses an item, told of the readers themselves. Assumes nothing.
use mathlib.Core.Path.{refl}
use Rattle.std.specs.Prelude.{Result}
use Rattle.std.specs.Borrow.{MutBor}
use Rattle.std.specs.Fn.{Shared}
use Rattle.scanner.specs.declared.Reader.{Reader}
use Rattle.scanner.specs.declared.Stop.{Stop}
use Rattle.scanner.specs.Items.{ParsedBy}

pub call : {F R : Type 0} (g : Shared F (MutBor Reader × (R × Unit {0})) (Result R Stop × (MutBor Reader × Unit {0}))) (f : F) (k : R) (result : Result R Stop)
    {from next : MutBor Reader}
    → g.post f (from, (k, tt)) (result, (next, tt))
    → ParsedBy g f k from.now result next.now
call g f k result {from} {next} met = record { shown = from; shows = refl; left = next; met = met; leaves = refl }
