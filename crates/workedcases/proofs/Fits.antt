-- A test for books for which a record has room: at most eight bids, and at most six segments in each. Assumes nothing.
use mathlib.Core.Bool.{Bool, true}
use mathlib.Core.List.{List, [], ◌∷◌}
use mathlib.Core.Path.{◌≡◌}
use borrow.Author.Tests.{leb-true}
use lib.Dec.{leb}
use Rattle.lists.specs.Every.{every}
use Rattle.lists.proofs.All.{all_tested, all_from}
use Rattle.book.specs.Entries.{BidEntries, BookEntries, book_entries}
use Rattle.booktext.specs.Record.{book_record}
use Rattle.booktext.specs.WellFormed.{WellFormedBook}
use Rattle.booktext.proofs.Records.{FewSegments, entries_back}
use Rattle.workedcases.proofs.Hold.{hold, each_holds}

abbrev few_segments : BidEntries → Bool
few_segments b = leb b.count 6

abbrev fit_tests : BookEntries → List Bool
fit_tests b = leb b.count 8 ∷ every few_segments b.bids ∷ []

unfoldable pub book_fits : BookEntries → Bool
book_fits b = hold (fit_tests b)

pub book_fits_lem : (b : BookEntries) → WellFormedBook b → book_fits b ≡ true → book_entries (book_record b) ≡ b
unfolding book_fits
book_fits_lem b well_formed e =
    let h = each_holds (fit_tests b) e in
    let segments = all_from _ FewSegments (λ x f. leb-true x.count 6 f) b.bids (all_tested few_segments b.bids h.1.0) in
    entries_back b well_formed (leb-true b.count 8 h.0) segments
