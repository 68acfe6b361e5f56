-- The award of a text as numbers, for C: what every text and every lent list of numbers gets. No total is negative
-- (endtoend/proofs/Fits.antt: `text_total_up_to`), so that no sign is lost.
use Rattle.std.specs.Prelude.{ℕ, ◌*◌, ◌≤◌, List, [], ◌∷◌, ◌≡◌, leb, nat_abs, length, Result, Ok, Err}
use Rattle.refusal.specs.Checks.{unless, first_of, when_accepted}
use Rattle.refusal.specs.declared.Refusal.{Refusal}
use Rattle.refusal.specs.declared.Rule.TheVariants.{OutputLength}
use Rattle.refusal.specs.Verdict.{Verdict}
use Rattle.refusal.specs.Verdict.{Accepted}
use Rattle.printer.specs.Written.{written}
use Rattle.clearing.specs.declared.Clearing.{Clearing}
use Rattle.tender.specs.FromText.{clear_text}
use Rattle.rownumbers.specs.RowNumbers.{award_numbers}
use Rattle.awardnumbers.specs.declared.AwardNumbers.{AwardNumbers}
use Rattle.awardnumbers.specs.declared.Numbers.{Numbers}

-- ---- of what was cleared

-- refused as it was cleared, or by rule 10 with the bytes needed (8 for a number) where the list is shorter than the rows
unfoldable pub numbers_verdict : Clearing → ℕ → Verdict
numbers_verdict cleared size =
    let count = cleared.award.count in
    first_of (cleared.verdict ∷ unless (leb (7 * count) size) OutputLength (56 * count) ∷ [])

abbrev pub numbers_bought : Clearing → ℕ → ℕ
numbers_bought cleared size = when_accepted (numbers_verdict cleared size) cleared.award.bought.0 0

abbrev pub numbers_total : Clearing → ℕ → ℕ
numbers_total cleared size = when_accepted (numbers_verdict cleared size) (nat_abs cleared.award.total.0) 0

abbrev pub numbers_count : Clearing → ℕ → ℕ
numbers_count cleared size = when_accepted (numbers_verdict cleared size) cleared.award.count 0

abbrev pub numbers_answer : Clearing → ℕ → AwardNumbers
numbers_answer cleared size = record {
  verdict = numbers_verdict cleared size;
  bought = numbers_bought cleared size;
  total = numbers_total cleared size;
  count = numbers_count cleared size;
}

-- what is answered of the numbers that were put, or of the refusal
abbrev pub numbers_told : Result Numbers Refusal → AwardNumbers
numbers_told (Ok numbers) = record { verdict = Accepted; bought = numbers.bought; total = numbers.total; count = numbers.count }
numbers_told (Err refusal) = record { verdict = Err refusal; bought = 0; total = 0; count = 0 }

-- the list: the rows, and what was past them; unchanged with a refusal
unfoldable pub numbers_output : Clearing → List ℕ → List ℕ
numbers_output cleared rows = when_accepted (numbers_verdict cleared (length rows)) (written rows 0 (award_numbers cleared.award)) rows

-- what the function that writes them asks: an award that is answered has at most eight rows
abbrev pub FewRows : Clearing → Type 0
FewRows cleared = cleared.verdict ≡ Accepted → cleared.award.count ≤ 8

-- ---- of a text, by the printed table

abbrev pub award_verdict : List ℕ → ℕ → Verdict
award_verdict t = numbers_verdict (clear_text t)

abbrev pub award_bought : List ℕ → ℕ → ℕ
award_bought t = numbers_bought (clear_text t)

abbrev pub award_total : List ℕ → ℕ → ℕ
award_total t = numbers_total (clear_text t)

abbrev pub award_count : List ℕ → ℕ → ℕ
award_count t = numbers_count (clear_text t)

abbrev pub award_answer : List ℕ → ℕ → AwardNumbers
award_answer t = numbers_answer (clear_text t)

abbrev pub award_output : List ℕ → List ℕ → List ℕ
award_output t = numbers_output (clear_text t)
