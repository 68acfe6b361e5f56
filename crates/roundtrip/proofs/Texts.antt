-- Demand 2 of any kind of text: what was written reads back, and an accepted text written out again is the same text. Assumes nothing.
use Prim.Native.Nat.{ℕ, ◌≤◌}
use mathlib.Core.List.{List}
use mathlib.Core.Path.{◌≡◌, refl, sym, ap, ◌∙◌, subst}
use borrow.Author.Tests.{le-leb}
use lib.ListN.{length, take}
use Rattle.std.specs.Prelude.{Ok, Err}
use Rattle.refusal.specs.Checks.{when_accepted}
use Rattle.refusal.specs.Verdict.{Verdict}
use Rattle.refusal.specs.Verdict.{Accepted}
use Rattle.forms.specs.Shape.{TextOf, of_shape, not_of_shape, answer}
use Rattle.textreading.proofs.Kind.{Kind}
use Rattle.textreading.proofs.Answers.{read_text, accepted_answer}
use Rattle.textreading.proofs.Told.{Answered, by_length, by_reading, ReadAs, read_answered, accepted_as}
use Rattle.printer.specs.Written.{written}
use Rattle.output.specs.Writing.{writing_verdict, written_of, output_after}
use Rattle.output.proofs.Answers as Output

-- What has to hold of the records of a kind of text. `Full` is what the machine guarantees of a record's arrays.
pub record Kept {A R C : Type 0} (k : Kind A R C) (Full : R → Type 0) : Type 1 where
  -- of a record that passes the rules: it has a text that is not too long, and the record of this text means the same
  pub well_formed : (r : R) → Full r → k.verdict_of (k.entries_of r) ≡ Accepted → k.form.Valid (k.entries_of r)
  pub text_short : (r : R) → Full r → k.verdict_of (k.entries_of r) ≡ Accepted → length (k.form.text (k.entries_of r)) ≤ 4096
  pub same_record : (r : R) → Full r → k.verdict_of (k.entries_of r) ≡ Accepted → k.entries_of (k.record_of (k.entries_of r)) ≡ k.entries_of r
  -- of the entries of a text: their record has its arrays in full, as that of zeros has, and where it passes the rules it means them
  pub full : (a : A) → Full (k.record_of a)
  pub zeros_full : Full k.zeros
  pub entries_of_record : (a : A) → k.form.Valid a → k.verdict_of (k.entries_of (k.record_of a)) ≡ Accepted → k.entries_of (k.record_of a) ≡ a

module _ {A R C : Type 0} {k : Kind A R C} {Full : R → Type 0} (kept : Kept k Full) where
  abbrev text_of : R → List ℕ
  text_of r = k.form.text (k.entries_of r)

  abbrev Passes : R → Type 0
  Passes r = k.verdict_of (k.entries_of r) ≡ Accepted

  -- t is accepted, and read as what r means
  abbrev pub ReadBack : List ℕ → R → Type 0
  ReadBack t r = (k.verdict_in (k.read_of t) ≡ Accepted) × (k.entries_of (k.record_in (k.read_of t)) ≡ k.entries_of r)

  -- the text of a record that passes is accepted, and is read as the same
  module _ (r : R) (its : Full r) (passes : Passes r) where
    pub read_record : k.read_of (text_of r) ≡ k.answering Accepted (k.record_of (k.entries_of r))
    read_record =
        let it : TextOf k.form.Valid k.form.text (text_of r) (k.entries_of r) =
        record { well_formed = kept.well_formed r its passes; is = refl } in
        sym (read_text k (text_of r) (kept.text_short r its passes) (k.entries_of r) it)
        ∙ accepted_answer k (k.entries_of r) (ap k.verdict_of (kept.same_record r its passes) ∙ passes)

    pub reads_back : ReadBack (text_of r) r
    reads_back = (
      ap k.verdict_in read_record ∙ k.verdict_in_lem _ _,
      ap (λ c. k.entries_of (k.record_in c)) read_record ∙ ap k.entries_of (k.record_in_lem _ _) ∙ kept.same_record r its passes,
    )

    pub text_accepted : (t : List ℕ) → t ≡ text_of r → ReadBack t r
    text_accepted t e = subst (λ (s : List ℕ). ReadBack s r) (sym e) reads_back

  -- reading what was written gives the same
  pub read_written : (r : R) (out : List ℕ) → Full r → writing_verdict (k.verdict_of (k.entries_of r)) (text_of r) (length out) ≡ Accepted
      → ReadBack (take (written_of (k.verdict_of (k.entries_of r)) (text_of r) (length out)).bytes (output_after (k.verdict_of (k.entries_of r)) (text_of r) out)) r
  read_written r out its accepted =
      let v = k.verdict_of (k.entries_of r) in
      text_accepted r its (Output.accepted_before v (text_of r) out accepted) _ (Output.text_written v (text_of r) out accepted)

  -- an accepted text
  module _ (t : List ℕ) (accepted : k.verdict_in (k.read_of t) ≡ Accepted) where
    abbrev held : R
    held = k.record_in (k.read_of t)

    abbrev meant : A
    meant = (accepted_as k t accepted).0

    read_as : ReadAs k t meant
    read_as = (accepted_as k t accepted).1

    held_is : held ≡ k.record_of meant
    held_is = ap k.record_in read_as.read ∙ k.record_in_lem Accepted (k.record_of meant)

    entries_are : k.entries_of held ≡ meant
    entries_are = ap k.entries_of held_is ∙ kept.entries_of_record meant read_as.text.well_formed read_as.accepted

    -- it is the text of what is read, which is of the shape
    pub text_read : TextOf k.form.Valid k.form.text t (k.entries_of held)
    text_read = subst (TextOf k.form.Valid k.form.text t) (sym entries_are) read_as.text

    pub same_text : text_of held ≡ t
    same_text = sym text_read.is

    -- which passes the rules
    pub held_passes : Passes held
    held_passes = ap (λ (r : R). k.verdict_of (k.entries_of r)) held_is ∙ read_as.accepted

    -- with zeros past the counts
    pub zeros_past : held ≡ k.record_of (k.entries_of held)
    zeros_past = held_is ∙ ap k.record_of (sym entries_are)

    -- writing what was read gives the same text, where the output has room for it
    pub written_read : (out : List ℕ) → length t ≤ length out
        → (written_of (k.verdict_of (k.entries_of held)) (text_of held) (length out) ≡ record { verdict = Accepted; bytes = length t })
        × (output_after (k.verdict_of (k.entries_of held)) (text_of held) out ≡ written out 0 t)
    unfolding writing_verdict written_of output_after
    written_read out h = rw (held_passes, same_text, le-leb (length t) (length out) h) (refl, refl)

  -- whatever the text, the record that is read has its arrays in full
  pub read_full : (t : List ℕ) → Full (k.record_in (k.read_of t))
  unfolding answer
  read_full t = go (read_answered k t)
    where
      answered_full : (v : Verdict) (r : R) → Full r → k.read_of t ≡ k.answering v r → Full (k.record_in (k.read_of t))
      answered_full v r its q = subst Full (sym (ap k.record_in q ∙ k.record_in_lem v r)) its

      given : (v : Verdict) (a : A) → Full (when_accepted v (k.record_of a) k.zeros)
      given (Ok _) a = kept.full a
      given (Err refusal) a = kept.zeros_full

      go : Answered k t → Full (k.record_in (k.read_of t))
      go (by_length h q) = answered_full _ _ kept.zeros_full q
      go (by_reading h (of_shape a it) q) =
          let v = k.verdict_of (k.entries_of (k.record_of a)) in
          answered_full v (when_accepted v (k.record_of a) k.zeros) (given v a) (q ∙ k.answer_is a)
      go (by_reading h (not_of_shape n none it) q) = answered_full _ _ kept.zeros_full q
