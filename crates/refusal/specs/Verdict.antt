-- Whether something is turned down, and by what. A refusal is a rule and a place (a line, a place in the text or a length).
use Rattle.std.specs.Prelude.{ℕ, Result, Ok, Err}
use Rattle.refusal.specs.declared.Rule.{Rule}
use Rattle.refusal.specs.declared.Refusal.{Refusal}

abbrev pub Verdict : Type 0
Verdict = Result (Unit {0}) Refusal

abbrev pub Accepted : Verdict
Accepted = Ok tt

abbrev pub Refused : Rule → ℕ → Verdict
Refused rule place = Err (record { rule = rule; place = place })
