-- Some tests, which all hold. Assumes nothing.
use mathlib.Core.Bool.{Bool, true}
use mathlib.Core.List.{List}
use mathlib.Core.Path.{◌≡◌}
use Rattle.lists.specs.All.{All}
use Rattle.lists.specs.Every.{every}
use Rattle.lists.proofs.All.{all_tested}

abbrev pub hold : List Bool → Bool
hold ts = every (λ (t : Bool). t) ts

pub each_holds : (ts : List Bool) → hold ts ≡ true → All (λ (t : Bool). t ≡ true) ts
each_holds ts e = all_tested (λ (t : Bool). t) ts e
