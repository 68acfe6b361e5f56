-- What every text and every output gets, case by case, as a writer comes to it. Assumes nothing.
use Prim.Native.Nat.{ℕ, ◌+◌, ◌≤◌, ◌<◌}
use native.Mathlib.Omega.{arith}
use mathlib.Core.List.{List, [], ◌∷◌}
use mathlib.Core.Path.{◌≡◌, refl, sym, ◌∙◌}
use borrow.Author.Tests.{le-leb, lt-leb}
use lib.Dec.{leb}
use lib.ListN.{length, take, drop}
use lib.Seq.{take-append_seam}
use Rattle.refusal.specs.Checks.{unless}
use Rattle.refusal.specs.declared.Rule.{Rule}
use Rattle.refusal.specs.declared.Rule.TheVariants.{OutputLength}
use Rattle.refusal.specs.Verdict.{Verdict}
use Rattle.refusal.specs.Verdict.{Accepted, Refused}
use Rattle.refusal.proofs.Firsts.{first_passed}
use Rattle.printer.specs.Written.{written}
use Rattle.output.specs.Writing.{writing_verdict, written_of, output_after, not_written, all_written}
use Rattle.output.specs.declared.TextWritten.{TextWritten}

-- the answer and the output at exit are those that are stated
abbrev pub Answered : Verdict → List ℕ → List ℕ → TextWritten → List ℕ → Type 0
Answered before text out answer exit = (answer ≡ written_of before text (length out)) × (exit ≡ output_after before text out)

module _ (before : Verdict) (text out : List ℕ) where
  -- an answer that is made beside a refusal, for too short an output, or for a text that was written
  pub refused_before : (answer : TextWritten) (verdict : Verdict) → answer ≡ not_written verdict → verdict ≡ before → (rule : Rule) (place : ℕ)
      → verdict ≡ Refused rule place → Answered before text out answer out
  unfolding writing_verdict written_of output_after
  refused_before answer verdict made checked rule place told = rw (made, sym checked ∙ told, told) (refl, refl)

  module _ (told : before ≡ Accepted) (needed : ℕ) (measured : needed ≡ length text) (answer : TextWritten) where
    pub too_short : answer ≡ not_written (Refused OutputLength needed) → length out < needed → Answered before text out answer out
    unfolding writing_verdict written_of output_after
    too_short made h = rw (made, told, lt-leb (length text) (length out) (omega arith), measured) (refl, refl)

    pub in_full : answer ≡ all_written needed → needed ≤ length out → (exit : List ℕ) → exit ≡ written out 0 text → Answered before text out answer exit
    unfolding writing_verdict written_of output_after
    in_full made h exit e = rw (made, told, le-leb (length text) (length out) (omega arith), measured) (refl, e)

  -- where there is room for the text, all of it is written
  pub all_written_lem : before ≡ Accepted → length text ≤ length out
      → ((written_of before text (length out)).bytes ≡ length text) × (take (length text) (output_after before text out) ≡ text)
  unfolding writing_verdict written_of output_after written
  all_written_lem told h = rw (told, le-leb (length text) (length out) h) (refl, take-append_seam text (drop (0 + length text) out))

  module _ (accepted : writing_verdict before text (length out) ≡ Accepted) where
    abbrev fits : Verdict
    fits = unless (leb (length text) (length out)) OutputLength (length text)

    pub accepted_before : before ≡ Accepted
    unfolding writing_verdict
    accepted_before = first_passed before (fits ∷ []) accepted

    -- the bytes written, as many as are answered, are the text
    pub text_written : take (written_of before text (length out)).bytes (output_after before text out) ≡ text
    unfolding written_of output_after written
    text_written = rw accepted (take-append_seam text (drop (0 + length text) out))
