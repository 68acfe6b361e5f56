-- What parsing finds, told apart, and what it was before it was carried on. Assumes nothing.
use Prim.Native.Nat.{ℕ, ◌+◌}
use native.Mathlib.Omega.{arith}
use mathlib.Core.List.{List}
use mathlib.Core.Path.{◌≡◌, refl, sym, ap}
use Rattle.forms.specs.Form.{Parse, parsed, stopped, after}

module _ {A : Type 0} where
  pub not_both : {a : A} {r : List ℕ} {n : ℕ} → parsed a r ≡ stopped n → ⊥
  not_both e = let z : ◌≡◌ {A = ℕ} 0 1 = cc in omega arith

  pub same_place : {m n : ℕ} → ◌≡◌ {A = Parse A} (stopped m) (stopped n) → n ≡ m
  same_place e = cc

  pub same_value : {a b : A} {r s : List ℕ} → parsed a r ≡ parsed b s → a ≡ b
  same_value e = cc

  pub same_rest : {a b : A} {r s : List ℕ} → parsed a r ≡ parsed b s → r ≡ s
  same_rest e = cc

module _ {A B : Type 0} (k : ℕ) (f : A → B) where
  pub after_parsed : (y : Parse A) {b : B} {r : List ℕ} → after k f y ≡ parsed b r → (a : A) × (y ≡ parsed a r) × (f a ≡ b)
  after_parsed (parsed a s) e = (a, ap (λ (z : List ℕ). parsed a z) (same_rest e), same_value e)
  after_parsed (stopped n) e = absurd (not_both (sym e))

  pub after_stopped : (y : Parse A) {n : ℕ} → after k f y ≡ stopped n → (m : ℕ) × (y ≡ stopped m) × (n ≡ k + m)
  after_stopped (parsed a s) e = absurd (not_both e)
  after_stopped (stopped m) e = (m, refl, same_place e)
