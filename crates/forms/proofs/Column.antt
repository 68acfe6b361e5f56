-- A text set to the right in so many columns: how long it is, and which bytes it has. Assumes nothing.
use Prim.Native.Nat.{ℕ, ◌-◌, ◌≤◌}
use native.Mathlib.Omega.{arith}
use mathlib.Core.List.{List}
use mathlib.Core.Path.{◌≡◌}
use lib.ListN.{length, replicate, length-append, length-replicate}
use Rattle.lists.specs.All.{All}
use Rattle.lists.proofs.All.{all_append, all_same}
use Rattle.forms.specs.Column.{right}

module _ (width : ℕ) (s : List ℕ) where
  pub length_right : length s ≤ width → length (right width s) ≡ width
  unfolding right
  length_right h = simp (length-append, length-replicate) (omega arith)

  -- its own, and spaces
  pub all_right : (P : ℕ → Type 0) → P 32 → All P s → All P (right width s)
  unfolding right
  all_right P space own = all_append P (replicate (width - length s) 32) s (all_same P (width - length s) 32 space) own
