-- A class put into a table stands at its index, and the other classes stand as they did. Assumes nothing.
use Prim.Native.Nat.{ℕ, ◌<◌}
use mathlib.Core.List.{List}
use mathlib.Core.Path.{◌≡◌}
use lib.ListN.{length, set}
use lib.Seq.{get_or-set_same, get_or-set_other}
use Rattle.lists.proofs.Tests.{same_or_not}
use Rattle.charges.specs.declared.Sums.{Sums}
use Rattle.completions.specs.Classes.{no_class, class_at}
use Rattle.completions.specs.Steps.{Put}

pub put_set : (table : List Sums) (i : ℕ) (x : Sums) → i < length table → Put table i x (set table i x)
put_set table i x h =
    record { here = get_or-set_same table i x no_class h; others = λ j n. get_or-set_other table i j x no_class n }

-- what holds of each class after it
pub put_at : {before after : List Sums} {i : ℕ} {x : Sums} → Put before i x after → (P : Sums → Type 0) (j : ℕ) → (j ≡ i → P x) → P (class_at before j)
    → P (class_at after j)
put_at {i = i} put P j same other = same_or_not j i (λ e. rw (e, put.here) (same e)) (λ n. rw (put.others j n) other)
