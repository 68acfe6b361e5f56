-- An answer is not of two kinds at once. Assumes nothing.
use Prim.Native.Nat.{ℕ}
use native.Mathlib.Omega.{arith}
use mathlib.Core.Path.{◌≡◌}
use Rattle.refusal.specs.declared.Rule.{Rule}
use Rattle.refusal.specs.Verdict.{Verdict}
use Rattle.refusal.specs.Verdict.{Accepted, Refused}
use Rattle.money.specs.declared.Cents.{Cents}
use Rattle.award.specs.declared.Total.{Total}
use Rattle.award.specs.declared.Total.TheVariants.{Amount, Nothing}

pub accepted_refused : (v : Verdict) (rule : Rule) (place : ℕ) → v ≡ Accepted → v ≡ Refused rule place → ⊥
accepted_refused v rule place e f = let z : ◌≡◌ {A = ℕ} 0 1 = cc in omega arith

pub amount_nothing : (t : Total) (c : Cents) → t ≡ Amount c → t ≡ Nothing → ⊥
amount_nothing t c e f = let z : ◌≡◌ {A = ℕ} 0 1 = cc in omega arith
