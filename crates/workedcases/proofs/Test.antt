-- The test of a case against its book, and what it tells. Assumes nothing.
use Prim.Native.Nat.{ℕ, ◌≤◌}
use mathlib.Core.Bool.{Bool, true, false, ◌&&◌}
use mathlib.Core.List.{List, [], ◌∷◌}
use mathlib.Core.Path.{◌≡◌}
use borrow.Author.Tests.{leb-true}
use lib.Dec.{leb}
use lib.ListN.{length}
use Rattle.refusal.specs.Checks.{when_accepted}
use Rattle.book.specs.Entries.{BookEntries, book_entries}
use Rattle.forms.specs.Shape.{TextOf}
use Rattle.booktext.specs.BookText.{book_text}
use Rattle.booktext.specs.Record.{book_record}
use Rattle.booktext.specs.WellFormed.{WellFormedBook}
use Rattle.sampling.specs.Sampling.{printed_table}
use Rattle.clearing.specs.declared.Clearing.{Clearing}
use Rattle.sheettext.specs.Sheet.{sheet_text, refusal_text}
use Rattle.workedcases.specs.Table.{Case}
use Rattle.workedcases.proofs.Model.{model_of}
use Rattle.workedcases.proofs.Hold.{hold, each_holds}
use Rattle.workedcases.proofs.Bytes.{eq_bytes, same_bytes}
use Rattle.workedcases.proofs.Small.{book_small, book_formed}
use Rattle.workedcases.proofs.Fits.{book_fits, book_fits_lem}

-- what is printed for an answer of clearing
abbrev pub printed_for : Clearing → List ℕ
printed_for c = when_accepted c.verdict (sheet_text c.award) (refusal_text c.verdict)

-- the case's text is that of the book, and what is printed is that of its model
abbrev tests : Case → BookEntries → List Bool
tests c b =
    eq_bytes c.text (book_text b)
    ∷ leb (length c.text) 4096
    ∷ book_small b
    ∷ book_fits b
    ∷ eq_bytes (printed_for (model_of printed_table b)) c.printed
    ∷ []

unfoldable pub passes : Case → BookEntries → Bool
passes c b = hold (tests c b)

-- each case passes with the book at its place
unfoldable pub all_pass : List Case → List BookEntries → Bool
all_pass [] bs = true
all_pass (c ∷ cs) [] = false
all_pass (c ∷ cs) (b ∷ bs) = passes c b && all_pass cs bs

pub record Passed (c : Case) (b : BookEntries) : Type 0 where
  pub text : TextOf WellFormedBook book_text c.text b
  pub short : length c.text ≤ 4096
  pub fits : book_entries (book_record b) ≡ b
  pub shown : printed_for (model_of printed_table b) ≡ c.printed

pub passed : (c : Case) (b : BookEntries) → passes c b ≡ true → Passed c b
unfolding passes
passed c b e =
    let h = each_holds (tests c b) e in
    let formed = book_formed b h.1.1.0 in
    record {
      text = record { well_formed = formed; is = same_bytes c.text (book_text b) h.0 };
      short = leb-true (length c.text) 4096 h.1.0;
      fits = book_fits_lem b formed h.1.1.1.0;
      shown = same_bytes (printed_for (model_of printed_table b)) c.printed h.1.1.1.1.0;
    }
