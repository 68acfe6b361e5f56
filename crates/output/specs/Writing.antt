-- Writing a text into a lent output: document 01, section "What is turned down". `before` is the verdict on what the text is made from.
use Rattle.std.specs.Prelude.{ℕ, List, [], ◌∷◌, leb, length, Result, Ok, Err}
use Rattle.refusal.specs.Checks.{unless, first_of, when_accepted}
use Rattle.refusal.specs.declared.Refusal.{Refusal}
use Rattle.refusal.specs.declared.Rule.TheVariants.{OutputLength}
use Rattle.refusal.specs.Verdict.{Verdict}
use Rattle.refusal.specs.Verdict.{Accepted}
use Rattle.printer.specs.Written.{written}
use Rattle.output.specs.declared.TextWritten.{TextWritten}

-- refused by what comes before, or by rule 10 with the bytes needed, where the output of `size` bytes is shorter than the text
unfoldable pub writing_verdict : Verdict → List ℕ → ℕ → Verdict
writing_verdict before text size = first_of (before ∷ unless (leb (length text) size) OutputLength (length text) ∷ [])

-- the number of bytes written, 0 with a refusal
unfoldable pub written_of : Verdict → List ℕ → ℕ → TextWritten
written_of before text size = record {
  verdict = writing_verdict before text size;
  bytes = when_accepted (writing_verdict before text size) (length text) 0;
}

-- the output: the text, and what was past it; unchanged with a refusal
unfoldable pub output_after : Verdict → List ℕ → List ℕ → List ℕ
output_after before text out = when_accepted (writing_verdict before text (length out)) (written out 0 text) out

-- Such an answer beside a refusal, and where the whole text was written.

abbrev pub not_written : Verdict → TextWritten
not_written verdict = record { verdict = verdict; bytes = 0 }

abbrev pub all_written : ℕ → TextWritten
all_written bytes = record { verdict = Accepted; bytes = bytes }

-- what a writer answers that wrote so many bytes, or was refused
abbrev pub told : Result ℕ Refusal → TextWritten
told (Ok bytes) = all_written bytes
told (Err refusal) = not_written (Err refusal)
