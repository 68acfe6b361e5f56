-- What document 01 says of its cases marked P, and what is printed in four cases of document 02, change 5, holds of the definitions, from
-- the text to the bytes that are printed. Assumes nothing.
use Prim.Native.Nat.{ℕ}
use mathlib.Core.Bool.{true, false≢true}
use mathlib.Core.List.{List, [], ◌∷◌}
use mathlib.Core.Path.{◌≡◌, refl, sym, ap, ◌∙◌}
use Rattle.std.specs.Prelude.{Ok, Err}
use Rattle.lists.specs.All.{All}
use Rattle.lists.proofs.Tests.{both_left, both_right}
use Rattle.refusal.specs.Verdict.{Verdict}
use Rattle.refusal.specs.Verdict.{Refused}
use Rattle.book.specs.Entries.{BookEntries, book_entries}
use Rattle.book.specs.Rules.{book_verdict}
use Rattle.booktext.specs.Record.{book_record}
use Rattle.bookreader.specs.declared.BookRead.{BookRead}
use Rattle.bookreader.specs.Reading.{book_answer, read_of}
use Rattle.bookreader.proofs.Answers.{read_text, accepted_answer}
use Rattle.sampling.specs.Sampling.{printed_table}
use Rattle.clearing.specs.Clearing.{clear_of}
use Rattle.clearing.proofs.Answers.{rules_first}
use Rattle.tender.specs.FromText.{clear_text_sampled, clear_text, clear_prints, printed_as}
use Rattle.workedcases.specs.Table.{Case, table}
use Rattle.workedcases.proofs.Model.{model_is}
use Rattle.workedcases.proofs.Books.{books}
use Rattle.workedcases.proofs.Test.{printed_for, passes, all_pass, Passed, passed}
use Rattle.workedcases.proofs.Computed.{computed}

-- a text that is read as a book's record is cleared as the book
module _ (t : List ℕ) (b : BookEntries) (read : read_of t ≡ book_answer b) (fits : book_entries (book_record b) ≡ b) where
  cleared_as : clear_text t ≡ clear_of b
  unfolding clear_text_sampled book_answer
  cleared_as = go (book_verdict (book_entries (book_record b))) refl
    where
      go : (v : Verdict) → book_verdict (book_entries (book_record b)) ≡ v → clear_text t ≡ clear_of b
      go (Ok _) e = rw (read ∙ accepted_answer b e) (ap clear_of fits)
      go (Err refusal) e =
          let told : (read_of t).verdict ≡ Refused refusal.rule refusal.place = ap (λ (r : BookRead). r.verdict) read ∙ e in
          rw told (sym (rules_first printed_table b refusal.rule refusal.place (ap book_verdict (sym fits) ∙ e)))

case_proved : (c : Case) (b : BookEntries) → Passed c b → clear_prints c.text ≡ c.printed
unfolding printed_as
case_proved c b k =
    let read = sym (read_text c.text k.short b k.text) in
    ap printed_for (cleared_as c.text b read k.fits ∙ sym (model_is printed_table b)) ∙ k.shown

cases_proved : (cs : List Case) (bs : List BookEntries) → all_pass cs bs ≡ true → All (λ (c : Case). clear_prints c.text ≡ c.printed) cs
unfolding all_pass
cases_proved [] bs e = tt
cases_proved (c ∷ cs) [] e = absurd (false≢true e)
cases_proved (c ∷ cs) (b ∷ bs) e =
    let first = both_left (passes c b) (all_pass cs bs) e in
    let rest = both_right (passes c b) (all_pass cs bs) e in
    (case_proved c b (passed c b first), cases_proved cs bs rest)

-- the table is proved of the definitions
pub proved : All (λ (c : Case). clear_prints c.text ≡ c.printed) table
proved = cases_proved table books computed
