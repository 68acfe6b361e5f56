-- What a text is answered, case by case: refused, or answered about what was worked out from it. Assumes nothing.
use Prim.Native.Nat.{ℕ}
use mathlib.Core.List.{List}
use mathlib.Core.Path.{◌≡◌}
use Rattle.refusal.specs.Checks.{when_accepted}
use Rattle.refusal.specs.declared.Rule.{Rule}
use Rattle.refusal.specs.Verdict.{Verdict}
use Rattle.refusal.specs.Verdict.{Accepted, Refused}
use Rattle.output.specs.declared.TextWritten.{TextWritten}
use Rattle.output.proofs.Answers.{Answered}

-- Every function that answers about a text begins with the same test. `work` is what it has, a book read from the text or the text cleared, and
-- `stated` what the contract says that this is.
module _ {A : Type 0} (verdict : A → Verdict) {work stated : A} (is : work ≡ stated) where
  module _ {rule : Rule} {place : ℕ} (told : verdict work ≡ Refused rule place) where
    -- beside a refusal stands what is given for it
    pub if_refused : {B : Type 0} (accepted refused : A → B) → refused work ≡ when_accepted (verdict stated) (accepted stated) (refused stated)
    if_refused accepted refused = rw (← is, told)

  module _ (told : verdict work ≡ Accepted) where
    -- else the answer is the one about the work at hand
    pub if_accepted : {B : Type 0} (accepted refused : A → B) → accepted work ≡ when_accepted (verdict stated) (accepted stated) (refused stated)
    if_accepted accepted refused = rw (← is, told)

    -- and the text that is written, where its writer refuses nothing itself, is its text
    pub text_written : (text : A → List ℕ) (out : List ℕ) {before : Verdict} → before ≡ Accepted → {answer : TextWritten} {exit : List ℕ}
        → Answered before (text work) out answer exit
        → Answered (verdict stated) (text stated) out answer exit
    text_written text out e h = rw (← is, told, ← e) h

-- a text that was written, said in other words
pub same_text : {a b : List ℕ} → a ≡ b → (out : List ℕ) {answer : TextWritten} {exit : List ℕ} → Answered Accepted a out answer exit
    → Answered Accepted b out answer exit
same_text e out h = rw (← e) h
