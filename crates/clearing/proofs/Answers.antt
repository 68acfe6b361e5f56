-- The answer of clearing by cases, and from what the search found. Assumes nothing.
use Prim.Native.Nat.{ℕ}
use mathlib.Core.List.{List}
use mathlib.Core.Option.{some, none}
use mathlib.Core.Path.{◌≡◌, sym, ap, ◌∙◌}
use lib.ListN.{take}
use Rattle.std.specs.Prelude.{Result, Ok, Err, Some, None}
use Rattle.refusal.specs.declared.Refusal.{Refusal}
use Rattle.lists.specs.Padded.{padded}
use Rattle.refusal.specs.declared.Rule.{Rule}
use Rattle.refusal.specs.declared.Rule.TheVariants.{NotCovered}
use Rattle.refusal.specs.Verdict.{Accepted, Refused}
use Rattle.book.specs.declared.Book.{Book}
use Rattle.book.specs.Entries.{BookEntries, book_entries}
use Rattle.book.specs.Rules.{book_verdict}
use Rattle.sampling.specs.Entries.{TableEntries}
use Rattle.supply.specs.Supply.{supplies_of}
use Rattle.divisions.specs.Award.{Priced, award_of, award_of_book}
use Rattle.comparison.specs.declared.PricedDivision.{PricedDivision}
use Rattle.comparison.specs.Records.{blanks_in, division_in, found}
use Rattle.award.specs.declared.Row.{Row}
use Rattle.award.specs.declared.Award.{Award}
use Rattle.award.specs.Award.{no_row}
use Rattle.clearing.specs.declared.Clearing.{Clearing}
use Rattle.clearing.specs.Clearing.{rows_from, award_record, refused_clearing, cleared_book, clear_sampled, clearing_told, BookAward}

-- A book's own refusal, no division, or an award.
module _ (table : TableEntries) (b : BookEntries) where
  -- a refusal by rules 3 to 8 comes first
  pub rules_first : (rule : Rule) (line : ℕ) → book_verdict b ≡ Refused rule line → clear_sampled table b ≡ refused_clearing (Refused rule line)
  unfolding clear_sampled
  rules_first rule line e = rw e

  rules_passed : book_verdict b ≡ Accepted → clear_sampled table b ≡ cleared_book table b (award_of_book b)
  unfolding clear_sampled
  rules_passed e = rw e

  pub no_division : book_verdict b ≡ Accepted → award_of_book b ≡ none → clear_sampled table b ≡ refused_clearing (Refused NotCovered 0)
  unfolding cleared_book
  no_division e f = rules_passed e ∙ ap (cleared_book table b) f

  abbrev pub covered : Priced → Clearing
  covered award = record { verdict = Accepted; award = award_record table b award }

  pub division : (award : Priced) → book_verdict b ≡ Accepted → award_of_book b ≡ some award → clear_sampled table b ≡ covered award
  unfolding cleared_book
  division award e f = rules_passed e ∙ ap (cleared_book table b) f

-- what clearing gives with these rows, where a division was found
abbrev awarded : Book → PricedDivision → List Row → Award
awarded book best rows = record { demand = book.order.demand; bought = best.bought; total = best.cost; count = book.count; rows = rows }

-- From what the steps of clearing found for a record: a refusal by its rules, no division, or the award.
module _ (table : TableEntries) (book : Book) where
  pub clear_refused : (res : Result Award Refusal) (refusal : Refusal) → res ≡ Err refusal → book_verdict (book_entries book) ≡ Err refusal
      → clearing_told res ≡ clear_sampled table (book_entries book)
  unfolding clear_sampled
  clear_refused res refusal e f = rw (e, f)

  module _ (accepted : book_verdict (book_entries book) ≡ Accepted) where
    pub clear_none : (res : Result Award Refusal) → res ≡ Err (record { rule = NotCovered; place = 0 })
        → found book.count None ≡ award_of book.order (supplies_of (book_entries book).bids) → clearing_told res ≡ clear_sampled table (book_entries book)
    unfolding award_of_book
    clear_none res e searched = rw e (sym (no_division table (book_entries book) accepted (sym searched)))

    pub is_award : (best : PricedDivision) → found book.count (Some best) ≡ award_of book.order (supplies_of (book_entries book).bids) → BookAward book best
    unfolding award_of_book
    is_award best searched = record { accepted = accepted; is_award = sym searched }

    pub clear_award : (best : PricedDivision) → BookAward book best → (rows : List Row)
        → rows ≡ padded 8 no_row (rows_from table (book_entries book) 0 (book_entries book).bids (take book.count (blanks_in best.quantities)))
        → clearing_told (Ok (awarded book best rows)) ≡ clear_sampled table (book_entries book)
    unfolding award_record
    clear_award best is rows e = rw e (sym (division table (book_entries book) (division_in book.count best) is.accepted is.is_award))
