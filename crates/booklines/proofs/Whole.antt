-- The line of the demand and the bids, read one after the other; the bids are added to the record of the line. Assumes nothing.
use mathlib.Core.Path.{◌≡◌, ap, ◌∙◌}
use Rattle.std.specs.Prelude.{Result, Ok, Err}
use Rattle.book.specs.declared.Book.{Book}
use Rattle.scanner.specs.declared.Reader.{Reader}
use Rattle.scanner.specs.declared.Stop.{Stop}
use Rattle.scanner.specs.Scans.{Scans, ScansAs}
use Rattle.scanner.proofs.Scanned.{scans_then, scans_via}
use Rattle.booktext.specs.BookText.{book_text}
use Rattle.booktext.specs.WellFormed.{WellFormedBook}
use Rattle.booktext.specs.Record.{book_record}
use Rattle.booktext.specs.BookForm.{Head, head, bids, book_of, book}
use Rattle.booktext.proofs.BookForm.{head_laws}
use Rattle.forms.specs.Combined.{sequence}
use Rattle.bookrecord.specs.Adding.{with_bids}
use Rattle.bookrecord.proofs.Kept.{bids_filled}
use Rattle.booklines.specs.Records.{book_started}

module _ (from mid : Reader) (h : Head) (x : Scans head from (Ok h) mid) (k : Book) (started : k ≡ book_started h) where
  pub book_scanned : (r : Result Book Stop) (next : Reader) → ScansAs bids (with_bids k) mid r next → ScansAs book book_record from r next
  book_scanned (Ok r) next y = (
    book_of h y.0,
    y.1 ∙ ap (λ b. with_bids b y.0) started ∙ bids_filled h y.0,
    scans_via (sequence head bids) (λ x. book_of x.0 x.1) WellFormedBook book_text from (Ok (h, y.0)) next
        (scans_then head_laws bids from mid h x (Ok y.0) next y.2),
  )
  book_scanned (Err stop) next y =
      scans_via (sequence head bids) (λ x. book_of x.0 x.1) WellFormedBook book_text from (Err stop) next
      (scans_then head_laws bids from mid h x (Err stop) next y)
