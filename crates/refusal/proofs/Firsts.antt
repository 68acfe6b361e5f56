-- Laws of checks in a stated order: what an acceptance tells of each check. Assumes nothing.
use Prim.Native.Nat.{ℕ}
use native.Mathlib.Omega.{arith}
use mathlib.Core.Bool.{Bool, true, false}
use mathlib.Core.List.{List, [], ◌∷◌}
use mathlib.Core.Path.{◌≡◌, refl, ap}
use Rattle.std.specs.Prelude.{Ok, Err}
use Rattle.lists.specs.All.{All}
use Rattle.refusal.specs.declared.Rule.{Rule}
use Rattle.refusal.specs.Verdict.{Verdict}
use Rattle.refusal.specs.Verdict.{Accepted, Refused}
use Rattle.refusal.specs.Checks.{unless, first_of}
use Rattle.refusal.specs.Number.{place_of}

-- no refusal is an acceptance
pub refused_not : {A : Type 0} {rule : Rule} {place : ℕ} → Refused rule place ≡ Accepted → A
refused_not e = let z : ◌≡◌ {A = ℕ} 0 1 = cc in absurd (omega arith)

-- equal refusals are by the same rule, at the same place
pub same_refusal : {r s : Rule} {n m : ℕ} → Refused r n ≡ Refused s m → (r ≡ s) × (n ≡ m)
same_refusal {r} {s} {n} {m} e = (ap rule_told e, ap place_of e)
  where
    rule_told : Verdict → Rule
    rule_told (Ok _) = r
    rule_told (Err refusal) = refusal.rule

pub only : (v : Verdict) → first_of (v ∷ []) ≡ v
only (Ok _) = refl
only (Err refusal) = refl

pub first_passed : (v : Verdict) (vs : List Verdict) → first_of (v ∷ vs) ≡ Accepted → v ≡ Accepted
first_passed (Ok _) vs e = refl
first_passed (Err refusal) vs e = e

rest_passed : (v : Verdict) (vs : List Verdict) → first_of (v ∷ vs) ≡ Accepted → first_of vs ≡ Accepted
rest_passed (Ok _) vs e = e
rest_passed (Err refusal) vs e = refused_not e

-- nothing is refused exactly if every check accepts
pub all_passed : (checks : List Verdict) → first_of checks ≡ Accepted → All (λ v. v ≡ Accepted) checks
all_passed [] e = tt
all_passed (v ∷ vs) e = (first_passed v vs e, all_passed vs (rest_passed v vs e))

pub passed_all : (checks : List Verdict) → All (λ v. v ≡ Accepted) checks → first_of checks ≡ Accepted
passed_all [] a = refl
passed_all (v ∷ vs) a = rw a.0 (passed_all vs a.1)

pub test_holds : (t : Bool) (rule : Rule) (place : ℕ) → unless t rule place ≡ Accepted → t ≡ true
test_holds true rule place e = refl
test_holds false rule place e = refused_not e
