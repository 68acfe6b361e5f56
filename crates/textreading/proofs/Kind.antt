-- A kind of text: its form, the record of what a text says, the rules for records, and what is answered about any text. Assumes nothing.
use Prim.Native.Nat.{ℕ}
use mathlib.Core.Bool.{cond}
use mathlib.Core.List.{List}
use mathlib.Core.Path.{◌≡◌}
use lib.Dec.{leb}
use lib.ListN.{length}
use Rattle.refusal.specs.Checks.{when_accepted}
use Rattle.refusal.specs.declared.Rule.{Rule}
use Rattle.refusal.specs.declared.Rule.TheVariants.{TextLength, Shape}
use Rattle.refusal.specs.Verdict.{Verdict}
use Rattle.refusal.specs.Verdict.{Refused}
use Rattle.forms.specs.Form.{Form}
use Rattle.forms.specs.Shape.{Reading, answer}
use Rattle.forms.proofs.Form.{Laws}

-- the texts of entries A, kept in records R, and answered by C
pub record Kind (A R C : Type 0) : Type 1 where
  pub form : Form A
  pub laws : Laws form
  pub reading : (t : List ℕ) → Reading form.Valid form.text t
  -- the record of entries, the entries of a record, and the rules for these
  pub record_of : A → R
  pub entries_of : R → A
  pub verdict_of : A → Verdict
  -- an answer is a verdict and a record, all zeros beside a refusal
  pub zeros : R
  pub answering : Verdict → R → C
  pub verdict_in : C → Verdict
  pub record_in : C → R
  pub verdict_in_lem : (v : Verdict) (r : R) → verdict_in (answering v r) ≡ v
  pub record_in_lem : (v : Verdict) (r : R) → record_in (answering v r) ≡ r
  -- what the text of entries is answered, and what any text is
  pub answer_of : A → C
  pub answer_is : (a : A) → let v = verdict_of (entries_of (record_of a)) in answer_of a ≡ answering v (when_accepted v (record_of a) zeros)
  pub read_of : List ℕ → C
  pub read_is : (t : List ℕ) → read_of t ≡ cond (leb (length t) 4096)
      (answer form.Valid form.text answer_of (λ n. answering (Refused Shape n) zeros) (reading t))
      (answering (Refused TextLength 4096) zeros)

module _ {A R C : Type 0} (k : Kind A R C) where
  abbrev pub refused_by : Rule → ℕ → C
  refused_by rule place = k.answering (Refused rule place) k.zeros

  abbrev pub Whole : List ℕ → Type 0
  Whole t = Reading k.form.Valid k.form.text t

  -- what is answered by a reading
  abbrev pub answered : (t : List ℕ) → Whole t → C
  answered t = answer k.form.Valid k.form.text k.answer_of (refused_by Shape)
