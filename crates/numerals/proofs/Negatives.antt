-- A small number and its negative, in the machine. Assumes nothing.
use Prim.Native.Nat.{ℕ, zero, suc, ◌^◌, ◌<◌}
use native.Mathlib.Omega.{arith}
use mathlib.Core.Path.{◌≡◌, sym, ap, ◌∙◌, subst}
use lib.IntN.{ℤ, pos, neg_ℤ, ◌-ℤ◌, +ℤ_idl}
use lib.Signed.{mag}
use mir.Syntax.{w64}
use mir.Val.{to_z, of_z}
use mir.ValLaws.{to_z_pos, to_z-of_z}

module _ (n : ℕ) (small : n < 10000000000000) where
  negated : pos 0 -ℤ to_z w64 n ≡ neg_ℤ (pos n)
  negated = +ℤ_idl (neg_ℤ (to_z w64 n)) ∙ ap neg_ℤ (to_z_pos w64 n (omega arith))

  pub minus_is : to_z w64 (of_z w64 (pos 0 -ℤ to_z w64 n)) ≡ neg_ℤ (pos n)
  minus_is = to_z-of_z w64 (pos 0 -ℤ to_z w64 n) (record { sfits = subst (λ (z : ℤ). mag z < 2 ^ 63) (sym negated) (size n small) }) ∙ negated
    where
      size : (n : ℕ) → n < 10000000000000 → mag (neg_ℤ (pos n)) < 2 ^ 63
      size zero h = omega arith
      size (suc n) h = omega arith
