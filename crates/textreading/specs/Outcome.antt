-- What is answered about a text, as one value: its record, or the refusal.
use Rattle.std.specs.Prelude.{Result, Ok, Err}
use Rattle.refusal.specs.declared.Refusal.{Refusal}
use Rattle.refusal.specs.Verdict.{Verdict}

-- a value where nothing is refused, or the refusal
abbrev pub or_refusal : {A : Type 0} → Verdict → A → Result A Refusal
or_refusal (Ok _) value = Ok value
or_refusal (Err refusal) value = Err refusal
