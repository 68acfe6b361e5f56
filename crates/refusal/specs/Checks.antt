-- Checks in a stated order: the first whose test fails gives the refusal.
use Rattle.std.specs.Prelude.{ℕ, Bool, true, false, List, [], ◌∷◌, Ok, Err}
use Rattle.refusal.specs.declared.Rule.{Rule}
use Rattle.refusal.specs.Verdict.{Verdict}
use Rattle.refusal.specs.Verdict.{Accepted, Refused}

-- refused by the rule at the place, unless the test holds
abbrev pub unless : Bool → Rule → ℕ → Verdict
unless true rule place = Accepted
unless false rule place = Refused rule place

-- the first refusal, or accepted where there is none
abbrev pub first_of : List Verdict → Verdict
first_of [] = Accepted
first_of (Ok _ ∷ checks) = first_of checks
first_of (Err refusal ∷ checks) = Err refusal

-- what is given beside a verdict: a value where nothing is refused, and `blank` (zeros, no or none) beside a refusal
abbrev pub when_accepted : {A : Type 0} → Verdict → A → A → A
when_accepted (Ok _) value blank = value
when_accepted (Err refusal) value blank = blank
