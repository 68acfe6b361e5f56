-- An output of as many bytes as the text of an award has at most, whatever text that is: it is long enough. Assumes nothing.
use Prim.Native.Nat.{ℕ, ◌≤◌}
use native.Mathlib.Omega.{arith}
use mathlib.Core.List.{List}
use mathlib.Core.Path.{◌≡◌, refl, sym, ◌∙◌, subst}
use borrow.Author.Tests.{le-leb}
use lib.ListN.{length}
use Rattle.std.specs.Prelude.{Ok, Err}
use Rattle.refusal.specs.Number.{rule_number}
use Rattle.refusal.specs.declared.Rule.{Rule}
use Rattle.refusal.specs.declared.Rule.TheVariants.{OutputLength}
use Rattle.refusal.specs.Verdict.{Verdict}
use Rattle.refusal.specs.Verdict.{Accepted, Refused}
use Rattle.refusal.proofs.Numbers.{two_digits}
use Rattle.refusal.proofs.Refusals.{never_other}
use Rattle.forms.proofs.Digits.{length_below}
use Rattle.output.specs.Writing.{writing_verdict, written_of}
use Rattle.award.specs.declared.Award.{Award}
use Rattle.clearing.specs.declared.Clearing.{Clearing}
use Rattle.sheettext.specs.Sheet.{refusal_text}
use Rattle.sheettext.proofs.Sizes.{refusal_size}
use Rattle.tender.specs.FromText.{written_as, printed_as}
use Rattle.endtoend.proofs.Places.{BeforeOutput}

-- the line of a refusal has at most 18 bytes
refusal_short : (rule : Rule) (place : ℕ) → place ≤ 4096 → length (refusal_text (Refused rule place)) ≤ 18
refusal_short rule place h =
    let number = length_below 1 (rule_number rule) (omega (arith, (two_digits rule).1)) in
    let digits = length_below 3 place (omega arith) in
    omega (arith, refusal_size (Refused rule place))

module _ (text : Award → List ℕ) (most : ℕ) (cleared : Clearing) (before : BeforeOutput cleared.verdict)
    (fits : cleared.verdict ≡ Accepted → length (text cleared.award) ≤ most) where
  -- it holds whatever is printed, if it holds the line of a refusal
  pub printed_fits : 18 ≤ most → length (printed_as text cleared) ≤ most
  unfolding printed_as
  printed_fits h = go cleared.verdict refl
    where
      go : (v : Verdict) → cleared.verdict ≡ v → length (printed_as text cleared) ≤ most
      go (Ok _) e = rw e (fits e)
      go (Err refusal) e =
          let told : BeforeOutput (Refused refusal.rule refusal.place) = subst BeforeOutput e before in
          rw e (omega (arith, refusal_short refusal.rule refusal.place told.1))

  -- it gets the verdict of clearing, and never rule 10
  module _ (out : List ℕ) (enough : most ≤ length out) where
    pub same_verdict : (written_as text cleared (length out)).verdict ≡ cleared.verdict
    unfolding written_as written_of writing_verdict
    same_verdict = go cleared.verdict refl
      where
        go : (v : Verdict) → cleared.verdict ≡ v → (written_as text cleared (length out)).verdict ≡ cleared.verdict
        go (Ok _) e = rw (e, le-leb (length (text cleared.award)) (length out) (omega (arith, fits e)))
        go (Err refusal) e = rw e

    pub never_10 : (place : ℕ) → (written_as text cleared (length out)).verdict ≡ Refused OutputLength place → ⊥
    never_10 place e =
        let told : BeforeOutput (Refused OutputLength place) = subst BeforeOutput (sym same_verdict ∙ e) before in
        never_other OutputLength told.0
