-- What the answer about a text tells of it. Assumes nothing.
use Prim.Native.Nat.{ℕ, ◌≤◌, ◌<◌}
use native.Mathlib.Omega.{arith}
use mathlib.Core.Bool.{Bool, true, false}
use mathlib.Core.List.{List}
use mathlib.Core.Path.{◌≡◌, refl, sym, ap, ◌∙◌, subst}
use borrow.Author.Tests.{leb-true, leb-false}
use lib.Dec.{leb}
use lib.ListN.{length}
use Rattle.refusal.specs.Checks.{when_accepted}
use Rattle.refusal.specs.Number.{number_of}
use Rattle.refusal.specs.declared.Rule.{Rule}
use Rattle.refusal.specs.declared.Rule.TheVariants.{TextLength, Shape}
use Rattle.refusal.specs.Verdict.{Verdict}
use Rattle.refusal.specs.Verdict.{Accepted, Refused}
use Rattle.refusal.proofs.Firsts.{refused_not, same_refusal}
use Rattle.refusal.proofs.Refusals.{RefusedBy}
use Rattle.forms.specs.Shape.{TextOf, Longest, of_shape, not_of_shape, answer}
use Rattle.textreading.proofs.Kind.{Kind, refused_by, Whole, answered}
use Rattle.textreading.proofs.Answers.{any_reading, read_long, accepted_answer}

module _ {A R C : Type 0} (k : Kind A R C) where
  -- What a text of at most 4,096 bytes is answered by; any other is refused by its length.
  pub data Answered (t : List ℕ) : Type 0 where
    by_length : 4096 < length t → k.read_of t ≡ refused_by k TextLength 4096 → Answered t
    by_reading : length t ≤ 4096 → (x : Whole k t) → k.read_of t ≡ answered k t x → Answered t

  -- what an accepted text is read as
  pub record ReadAs (t : List ℕ) (a : A) : Type 0 where
    pub short : length t ≤ 4096
    pub text : TextOf k.form.Valid k.form.text t a
    pub accepted : k.verdict_of (k.entries_of (k.record_of a)) ≡ Accepted
    pub read : k.read_of t ≡ k.answering Accepted (k.record_of a)

  module _ (t : List ℕ) where
    pub read_answered : Answered t
    read_answered = go (leb (length t) 4096) refl
      where
        go : (x : Bool) → leb (length t) 4096 ≡ x → Answered t
        go true q = let h = leb-true (length t) 4096 q in by_reading h (k.reading t) (sym (any_reading k t h (k.reading t)))
        go false q = let h = leb-false (length t) 4096 q in by_length h (sym (read_long k t h))

    -- the verdict of a text that is refused, and of one that is answered by entries
    refused_says : (rule : Rule) (place : ℕ) (v : Verdict) → k.read_of t ≡ refused_by k rule place → k.verdict_in (k.read_of t) ≡ v → Refused rule place ≡ v
    refused_says rule place v q e = sym (ap k.verdict_in q ∙ k.verdict_in_lem (Refused rule place) k.zeros) ∙ e

    entries_say : (a : A) (v : Verdict) → k.read_of t ≡ k.answer_of a → k.verdict_in (k.read_of t) ≡ v → k.verdict_of (k.entries_of (k.record_of a)) ≡ v
    entries_say a v q e = sym (ap k.verdict_in (q ∙ k.answer_is a) ∙ k.verdict_in_lem _ _) ∙ e

    pub accepted_as : k.verdict_in (k.read_of t) ≡ Accepted → (a : A) × ReadAs t a
    unfolding answer
    accepted_as e = go read_answered
      where
        go : Answered t → (a : A) × ReadAs t a
        go (by_length h q) = refused_not (refused_says TextLength 4096 Accepted q e)
        go (by_reading h (of_shape a it) q) =
            let f = entries_say a Accepted q e in
            (a, record { short = h; text = it; accepted = f; read = q ∙ accepted_answer k a f })
        go (by_reading h (not_of_shape n none it) q) = refused_not (refused_says Shape n Accepted q e)

    -- with a refusal the record is all zeros
    pub refused_answer_lem : (rule : Rule) (place : ℕ) → k.verdict_in (k.read_of t) ≡ Refused rule place → k.read_of t ≡ refused_by k rule place
    unfolding answer
    refused_answer_lem rule place e = go read_answered
      where
        by_verdict : (r : R) (v : Verdict) → v ≡ Refused rule place → k.answering v (when_accepted v r k.zeros) ≡ refused_by k rule place
        by_verdict r v f = ap (λ (w : Verdict). k.answering w (when_accepted w r k.zeros)) f

        go : Answered t → k.read_of t ≡ refused_by k rule place
        go (by_length h q) = q ∙ ap (λ (v : Verdict). k.answering v k.zeros) (refused_says TextLength 4096 (Refused rule place) q e)
        go (by_reading h (of_shape a it) q) =
            q ∙ k.answer_is a ∙ by_verdict (k.record_of a) (k.verdict_of (k.entries_of (k.record_of a))) (entries_say a (Refused rule place) q e)
        go (by_reading h (not_of_shape n none it) q) =
            q ∙ ap (λ (v : Verdict). k.answering v k.zeros) (refused_says Shape n (Refused rule place) q e)

    -- what holds of the refusals of texts and of records holds of the refusal that is answered
    pub refused_by_lem : (P : Rule → ℕ → Type 0) → P TextLength 4096 → ((n : ℕ) → n ≤ 4096 → P Shape n)
        → ((a : A) → RefusedBy P (k.verdict_of (k.entries_of (k.record_of a))))
        → RefusedBy P (k.verdict_in (k.read_of t))
    unfolding answer
    refused_by_lem P long other records = go read_answered
      where
        told : (v : Verdict) (r : R) → k.read_of t ≡ k.answering v r → RefusedBy P v → RefusedBy P (k.verdict_in (k.read_of t))
        told v r q h = subst (RefusedBy P) (sym (ap k.verdict_in q ∙ k.verdict_in_lem v r)) h

        go : Answered t → RefusedBy P (k.verdict_in (k.read_of t))
        go (by_length h q) = told (Refused TextLength 4096) k.zeros q long
        go (by_reading h (of_shape a it) q) =
            let v = k.verdict_of (k.entries_of (k.record_of a)) in
            told v (when_accepted v (k.record_of a) k.zeros) (q ∙ k.answer_is a) (records a)
        go (by_reading h (not_of_shape n none it) q) = told (Refused Shape n) k.zeros q (other n (omega (arith, it.within)))

    -- where no rule for records is the rule for the shape: refused by it, the text is not of the shape, and the place is the longest beginning
    pub refused_place : ((a : A) (n : ℕ) → k.verdict_of a ≡ Refused Shape n → ⊥) → (n : ℕ) → k.verdict_in (k.read_of t) ≡ Refused Shape n
        → (length t ≤ 4096) × ((a : A) → TextOf k.form.Valid k.form.text t a → ⊥) × Longest k.form.Valid k.form.text t n
    unfolding answer
    refused_place not_shape n e = go read_answered
      where
        go : Answered t → (length t ≤ 4096) × ((a : A) → TextOf k.form.Valid k.form.text t a → ⊥) × Longest k.form.Valid k.form.text t n
        go (by_length h q) = absurd (omega (arith, ap number_of (refused_says TextLength 4096 (Refused Shape n) q e)))
        go (by_reading h (of_shape a it) q) = absurd (not_shape (k.entries_of (k.record_of a)) n (entries_say a (Refused Shape n) q e))
        go (by_reading h (not_of_shape m none it) q) =
            (h, none, subst (Longest k.form.Valid k.form.text t) (same_refusal (refused_says Shape m (Refused Shape n) q e)).1 it)
