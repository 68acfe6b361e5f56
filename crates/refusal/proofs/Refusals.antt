-- What holds of every check of a list holds of the refusal that the list gives, whatever the order and the numbers of the rules. Assumes nothing.
use Prim.Native.Nat.{ℕ}
use mathlib.Core.Bool.{Bool, true, false, not, true≢false}
use mathlib.Core.List.{List, [], ◌∷◌}
use mathlib.Core.Path.{◌≡◌, refl, sym, ap, ◌∙◌}
use borrow.Author.Tests.{eq-eqb}
use lib.Dec.{eqb}
use Rattle.std.specs.Prelude.{Ok, Err}
use Rattle.lists.specs.All.{All}
use Rattle.refusal.specs.declared.Rule.{Rule}
use Rattle.refusal.specs.Verdict.{Verdict}
use Rattle.refusal.specs.Checks.{unless, first_of}
use Rattle.refusal.specs.Number.{rule_number}

-- accepted, or refused by a rule and at a place of which P holds
abbrev pub RefusedBy : (Rule → ℕ → Type 0) → Verdict → Type 0
RefusedBy P (Ok _) = Unit {0}
RefusedBy P (Err refusal) = P refusal.rule refusal.place

module _ (P : Rule → ℕ → Type 0) where
  pub by_first : (checks : List Verdict) → All (RefusedBy P) checks → RefusedBy P (first_of checks)
  by_first [] h = tt
  by_first (Ok _ ∷ checks) h = by_first checks h.1
  by_first (Err refusal ∷ checks) h = h.0

  pub by_unless : (test : Bool) (rule : Rule) (place : ℕ) → P rule place → RefusedBy P (unless test rule place)
  by_unless true rule place h = tt
  by_unless false rule place h = h

-- another rule than this one
abbrev pub is_other : Rule → Rule → Bool
is_other this rule = not (eqb (rule_number rule) (rule_number this))

abbrev pub Other : Rule → Rule → Type 0
Other this rule = is_other this rule ≡ true

pub never_other : (rule : Rule) → Other rule rule → ⊥
never_other rule e = true≢false (sym e ∙ ap not (eq-eqb (rule_number rule) (rule_number rule) refl))
