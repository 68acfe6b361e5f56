-- An answer as one value, the record or the refusal: what a parsed text gives, and that the answer follows from it, since beside a refusal
-- stand zeros. Assumes nothing.
use Prim.Native.Nat.{ℕ}
use mathlib.Core.Bool.{Bool, true, false}
use mathlib.Core.List.{List}
use mathlib.Core.Path.{◌≡◌, refl, sym, ap, ap₂, ◌∙◌}
use Rattle.std.specs.Prelude.{Result, Ok, Err, IsErrAnd}
use Rattle.std.proofs.lemmas.Result.{err_from_is_err_and}
use Rattle.refusal.specs.Checks.{unless, when_accepted}
use Rattle.refusal.specs.declared.Refusal.{Refusal}
use Rattle.refusal.specs.declared.Rule.{Rule}
use Rattle.refusal.specs.declared.Rule.TheVariants.{TextLength, Shape}
use Rattle.refusal.specs.Verdict.{Verdict}
use Rattle.refusal.specs.Verdict.{Accepted, Refused}
use Rattle.refusal.proofs.Firsts.{refused_not}
use Rattle.forms.specs.Shape.{of_shape, not_of_shape, answer}
use Rattle.textreading.specs.Outcome.{or_refusal}
use Rattle.textreading.proofs.Kind.{Kind, refused_by}
use Rattle.textreading.proofs.Told.{Answered, by_length, by_reading, read_answered}

-- what stands beside a refusal is not told
not_told : {R : Type 0} (v : Verdict) (r zeros : R) → or_refusal v (when_accepted v r zeros) ≡ or_refusal v r
not_told (Ok _) r zeros = refl
not_told (Err refusal) r zeros = refl

module _ {A R C : Type 0} (k : Kind A R C) where
  abbrev pub outcome : C → Result R Refusal
  outcome c = or_refusal (k.verdict_in c) (k.record_in c)

  outcome_lem : (v : Verdict) (r : R) → outcome (k.answering v (when_accepted v r k.zeros)) ≡ or_refusal v r
  outcome_lem v r =
      let z = when_accepted v r k.zeros in
      ap₂ or_refusal (k.verdict_in_lem v z) (k.record_in_lem v z) ∙ not_told v r k.zeros

  module _ (t : List ℕ) where
    -- A `?` gives on the refusal that it met, here one before the rules for records were looked at;
    pub text_refused : (rule : Rule) (place : ℕ) → refused_by k rule place ≡ k.read_of t → (refusal : Refusal) → refusal ≡ record { rule = rule; place = place }
        → (out : Result R Refusal) → IsErrAnd out (λ e. e ≡ refusal) → out ≡ outcome (k.read_of t)
    text_refused rule place q refusal e out same =
        let given = err_from_is_err_and out same in
        let v = Refused rule place in
        given.1
        ∙ ap (λ (x : Refusal). Err x) (given.2 ∙ e)
        ∙ sym (ap₂ or_refusal (k.verdict_in_lem v k.zeros) (k.record_in_lem v k.zeros))
        ∙ ap outcome q

    -- by a test;
    pub test_refused : (test : Bool) (rule : Rule) (place : ℕ) → (test ≡ false → refused_by k rule place ≡ k.read_of t) → (refusal : Refusal)
        → Err refusal ≡ unless test rule place
        → (out : Result R Refusal) → IsErrAnd out (λ e. e ≡ refusal) → out ≡ outcome (k.read_of t)
    test_refused true rule place q refusal e = refused_not e
    test_refused false rule place q refusal e =
        let same : refusal ≡ record { rule = rule; place = place } = cc in text_refused rule place (q refl) refusal same

    -- and here one by the rules for records.
    module _ (a : A) (r : R) (same : r ≡ k.record_of a) (q : k.answer_of a ≡ k.read_of t) where
      checked : or_refusal (k.verdict_of (k.entries_of r)) r ≡ outcome (k.read_of t)
      checked =
          ap (λ (x : R). or_refusal (k.verdict_of (k.entries_of x)) x) same
          ∙ sym (outcome_lem (k.verdict_of (k.entries_of (k.record_of a))) (k.record_of a))
          ∙ ap outcome (sym (k.answer_is a) ∙ q)

      pub rules_refused : (refusal : Refusal) → Err refusal ≡ k.verdict_of (k.entries_of r) → (out : Result R Refusal) → IsErrAnd out (λ e. e ≡ refusal)
          → out ≡ outcome (k.read_of t)
      rules_refused refusal e out same =
          let given = err_from_is_err_and out same in
          given.1 ∙ ap (λ (x : Refusal). Err x) given.2 ∙ ap (λ (v : Verdict). or_refusal v r) e ∙ checked

      -- the rules accept the record
      pub rules_passed : Accepted ≡ k.verdict_of (k.entries_of r) → Ok r ≡ outcome (k.read_of t)
      rules_passed e = ap (λ (v : Verdict). or_refusal v r) e ∙ checked

    -- every answer is a verdict, and a record or zeros
    answers : (v : Verdict) × (r : R) × (k.read_of t ≡ k.answering v (when_accepted v r k.zeros))
    unfolding answer
    answers = go (read_answered k t)
      where
        go : Answered k t → (v : Verdict) × (r : R) × (k.read_of t ≡ k.answering v (when_accepted v r k.zeros))
        go (by_length h q) = (Refused TextLength 4096, k.zeros, q)
        go (by_reading h (of_shape a it) q) = (k.verdict_of (k.entries_of (k.record_of a)), k.record_of a, q ∙ k.answer_is a)
        go (by_reading h (not_of_shape n none it) q) = (Refused Shape n, k.zeros, q)

    -- the answer is told by its outcome
    pub answer_accepted : (r : R) → Ok r ≡ outcome (k.read_of t) → k.answering Accepted r ≡ k.read_of t
    answer_accepted r e =
        let (v, s, q) = answers in
        go v s (e ∙ ap outcome q ∙ outcome_lem v s) ∙ sym q
      where
        go : (v : Verdict) (s : R) → Ok r ≡ or_refusal v s → k.answering Accepted r ≡ k.answering v (when_accepted v s k.zeros)
        go (Ok _) s i = let same : r ≡ s = cc in ap (k.answering Accepted) same
        go (Err refusal) s i = absurd cc

    pub answer_refused : (refusal : Refusal) → Err refusal ≡ outcome (k.read_of t) → k.answering (Err refusal) k.zeros ≡ k.read_of t
    answer_refused refusal e =
        let (v, s, q) = answers in
        go v s (e ∙ ap outcome q ∙ outcome_lem v s) ∙ sym q
      where
        go : (v : Verdict) (s : R) → Err refusal ≡ or_refusal v s → k.answering (Err refusal) k.zeros ≡ k.answering v (when_accepted v s k.zeros)
        go (Ok _) s i = absurd cc
        go (Err other) s i = let same : refusal ≡ other = cc in ap (λ (x : Refusal). k.answering (Err x) k.zeros) same
