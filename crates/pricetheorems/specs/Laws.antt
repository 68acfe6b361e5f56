-- Laws of clearing: where R relates two accepted books, P holds of what clearing answers for them. Of books, which are those of records (the
-- book of a record is `book_entries` of it), and of texts.
use Rattle.std.specs.Prelude.{ℕ, List, ◌≡◌}
use Rattle.refusal.specs.Verdict.{Accepted}
use Rattle.book.specs.Entries.{BookEntries}
use Rattle.book.specs.Rules.{book_verdict}
use Rattle.sampling.specs.Entries.{TableEntries}
use Rattle.clearing.specs.declared.Clearing.{Clearing}
use Rattle.clearing.specs.Clearing.{clear_sampled}
use Rattle.tender.specs.FromText.{clear_text_sampled, cleared_by_table}
use Rattle.endtoend.specs.Outcome.{AcceptedText}
use Rattle.endtoend.specs.ByTable.{AcceptedTable}

module _ (R : BookEntries → BookEntries → Type 0) (P : Clearing → Clearing → Type 0) where
  -- with any sampling table
  abbrev pub OfBooks : Type 0
  OfBooks =
      (table : TableEntries) (b b' : BookEntries) → book_verdict b ≡ Accepted → book_verdict b' ≡ Accepted → R b b'
      → P (clear_sampled table b) (clear_sampled table b')

  abbrev pub OfTexts : Type 0
  OfTexts =
      (table : TableEntries) (t t' : List ℕ) (b b' : BookEntries) → AcceptedText t b → AcceptedText t' b' → R b b'
      → P (clear_text_sampled table t) (clear_text_sampled table t')

  -- with a table that comes as the text s
  abbrev pub OfTextsByTable : Type 0
  OfTextsByTable =
      (s t t' : List ℕ) (e : TableEntries) (b b' : BookEntries) → AcceptedTable s e → AcceptedText t b → AcceptedText t' b' → R b b'
      → P (cleared_by_table s t) (cleared_by_table s t')

-- the law in each of these forms
pub record Law (R : BookEntries → BookEntries → Type 0) (P : Clearing → Clearing → Type 0) : Type 0 where
  pub books : OfBooks R P
  pub texts : OfTexts R P
  pub by_table : OfTextsByTable R P
