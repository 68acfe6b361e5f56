-- What a parsed text is answered. Assumes nothing.
use Prim.Native.Nat.{ℕ, suc, ◌-◌, ◌≤◌, ◌<◌}
use native.Mathlib.Omega.{arith}
use mathlib.Core.Bool.{Bool, cond}
use mathlib.Core.List.{List}
use mathlib.Core.Path.{◌≡◌, sym, ap, ap₂, ◌∙◌}
use borrow.Author.Tests.{le-leb, lt-leb}
use lib.ListN.{length, drop, get_or, drop_of_length-le}
use lib.Seq.{drop-cons}
use Rattle.refusal.specs.Checks.{when_accepted}
use Rattle.refusal.specs.declared.Rule.{Rule}
use Rattle.refusal.specs.declared.Rule.TheVariants.{TextLength, Shape}
use Rattle.refusal.specs.Verdict.{Verdict}
use Rattle.refusal.specs.Verdict.{Accepted, Refused}
use Rattle.forms.specs.Form.{parsed, stopped}
use Rattle.forms.specs.Shape.{TextOf, Longest, of_shape, not_of_shape, answer}
use Rattle.forms.specs.Place.{Found, Stops}
use Rattle.forms.proofs.Place.{wide}
use Rattle.forms.proofs.Whole.{parsed_text, stopped_longest, stopped_none, ended_longest, ended_none, one_answer}
use Rattle.textreading.proofs.Kind.{Kind, refused_by, Whole, answered}

module _ {A R C : Type 0} (k : Kind A R C) (t : List ℕ) where
  abbrev Text : A → Type 0
  Text a = TextOf k.form.Valid k.form.text t a

  -- by whether it is short enough
  abbrev by_length : Bool → C
  by_length b = cond b (answered k t (k.reading t)) (refused_by k TextLength 4096)

  pub read_long : 4096 < length t → refused_by k TextLength 4096 ≡ k.read_of t
  read_long h = ap by_length (sym (lt-leb (length t) 4096 h)) ∙ sym (k.read_is t)

  module _ (short : length t ≤ 4096) where
    -- Which of a text's readings is taken makes no difference: there is one answer.
    pub any_reading : (x : Whole k t) → answered k t x ≡ k.read_of t
    any_reading x =
        one_answer k.laws k.answer_of (refused_by k Shape) t x (k.reading t)
        ∙ ap by_length (sym (le-leb (length t) 4096 short))
        ∙ sym (k.read_is t)

    pub read_text : (a : A) → Text a → k.answer_of a ≡ k.read_of t
    unfolding answer
    read_text a it = any_reading (of_shape a it)

    pub read_other : (n : ℕ) → ((a : A) → Text a → ⊥) → Longest k.form.Valid k.form.text t n → refused_by k Shape n ≡ k.read_of t
    unfolding answer
    read_other n none it = any_reading (not_of_shape n none it)

    -- parsing stopped
    pub read_stopped : (e : ℕ) → Stops k.form t 0 e → refused_by k Shape e ≡ k.read_of t
    read_stopped e s =
        let z : e - 0 ≡ e = omega arith in
        let q = s.finds ∙ ap (λ (n : ℕ). stopped n) z in
        read_other e (stopped_none k.laws t e q) (stopped_longest k.laws t e q)

    -- entries were parsed, and the text goes on
    pub read_ended : (a : A) (e : ℕ) → Found k.form t 0 a e → e < length t → refused_by k Shape e ≡ k.read_of t
    read_ended a e f h =
        let q = f.finds ∙ ap (λ (r : List ℕ). parsed a r) (drop-cons t e 0 h) in
        let z : length (k.form.text a) ≡ e = omega (arith, wide k.laws t f) in
        ap (refused_by k Shape) (sym z)
        ∙ read_other (length (k.form.text a)) (ended_none k.laws t a (get_or t e 0) (drop (suc e) t) q)
        (ended_longest k.laws t a (get_or t e 0) (drop (suc e) t) q)

    -- the text is that of the entries
    pub read_whole : (a : A) (e : ℕ) → Found k.form t 0 a e → length t ≤ e → k.answer_of a ≡ k.read_of t
    read_whole a e f h = read_text a (parsed_text k.laws t a (f.finds ∙ ap (λ (r : List ℕ). parsed a r) (drop_of_length-le t h)))

-- what the record's verdict gives
module _ {A R C : Type 0} (k : Kind A R C) (a : A) where
  abbrev by_verdict : Verdict → C
  by_verdict v = k.answering v (when_accepted v (k.record_of a) k.zeros)

  pub accepted_answer : k.verdict_of (k.entries_of (k.record_of a)) ≡ Accepted → k.answer_of a ≡ k.answering Accepted (k.record_of a)
  accepted_answer e = k.answer_is a ∙ ap by_verdict e

  module _ (r : R) (verdict : Verdict) (same : r ≡ k.record_of a) (checked : verdict ≡ k.verdict_of (k.entries_of r)) where
    pub answer_refused : (rule : Rule) (place : ℕ) → verdict ≡ Refused rule place → refused_by k rule place ≡ k.answer_of a
    answer_refused rule place q =
        ap by_verdict (sym q ∙ checked ∙ ap (λ (x : R). k.verdict_of (k.entries_of x)) same) ∙ sym (k.answer_is a)

    pub answer_accepted : verdict ≡ Accepted → k.answering verdict r ≡ k.answer_of a
    answer_accepted q =
        ap₂ k.answering q same
        ∙ sym (accepted_answer (ap (λ (x : R). k.verdict_of (k.entries_of x)) (sym same) ∙ sym checked ∙ q))
