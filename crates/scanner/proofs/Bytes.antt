-- The byte at a place of a text. Assumes nothing.
use Prim.Native.Nat.{ℕ, ◌≤◌, ◌<◌}
use mathlib.Core.Bool.{Bool, true, false, true≢false}
use mathlib.Core.List.{List}
use mathlib.Core.Path.{◌≡◌, refl, sym, ◌∙◌}
use borrow.Author.Tests.{ltb-true, ltb-false}
use lib.Dec.{ltb, eqb}
use lib.ListN.{length, drop, get_or, drop_of_length-le}
use Rattle.lists.proofs.Slices.{drop_next}
use Rattle.forms.specs.Tests.{starts_with}

module _ (x : ℕ) (t : List ℕ) (at : ℕ) where
  pub starts_at : at < length t → starts_with x (drop at t) ≡ eqb (get_or t at 0) x
  starts_at h = rw (drop_next t at 0 h)

  pub starts_past : length t ≤ at → starts_with x (drop at t) ≡ false
  starts_past h = rw (drop_of_length-le t h)

  -- a byte that is seen is a byte of the text
  pub starts_within : starts_with x (drop at t) ≡ true → at < length t
  starts_within e = side (ltb at (length t)) refl
    where
      side : (b : Bool) → ltb at (length t) ≡ b → at < length t
      side true q = ltb-true at (length t) q
      side false q = absurd (true≢false (sym e ∙ starts_past (ltb-false at (length t) q)))
