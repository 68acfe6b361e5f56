-- The page of every cleared book, of a record and of a text: its lines, how long it is, and that its columns give the award again. Assumes
-- nothing.
use Prim.Native.Nat.{ℕ, ◌+◌, ◌*◌, ◌≤◌}
use native.Mathlib.Omega.{arith}
use mathlib.Core.List.{List}
use mathlib.Core.Path.{◌≡◌, sym, ap, ◌∙◌, subst}
use lib.ListN.{length, take}
use Rattle.refusal.specs.declared.Rule.TheVariants.{OutputLength}
use Rattle.refusal.specs.Verdict.{Accepted, Refused}
use Rattle.book.specs.declared.Book.{Book}
use Rattle.book.specs.Entries.{BookEntries, book_entries}
use Rattle.output.specs.Writing.{written_of}
use Rattle.output.proofs.Answers.{accepted_before, text_written}
use Rattle.sampling.specs.Entries.{TableEntries}
use Rattle.sampling.specs.Sampling.{printed_table}
use Rattle.award.specs.declared.Award.{Award}
use Rattle.clearing.specs.Clearing.{clear_sampled}
use Rattle.awardtheorems.proofs.Amounts.{SmallSamples}
use Rattle.sheettext.specs.Sheet.{sheet_text}
use Rattle.pagetext.specs.Page.{page_text}
use Rattle.pagetext.specs.ReadBack.{award_in}
use Rattle.pagetext.specs.Fits.{PageLines}
use Rattle.pagetext.specs.ThePage.{ThePage}
use Rattle.pagetext.proofs.Page.{lines_length, page_lines}
use Rattle.pagetext.proofs.ReadBack.{award_back}
use Rattle.tender.specs.FromText.{clear_text_sampled, cleared_by_table, written_as, output_as, printed_as, clear_text, sheet_written, page_written, page_output, page_prints}
use Rattle.endtoend.proofs.ClearedText.{of_records}
use Rattle.endtoend.proofs.Fits.{few, printed_small, sheet_verdict}
use Rattle.endtoend.proofs.Places.{before_output}
use Rattle.endtoend.proofs.LongEnough.{printed_fits, same_verdict, never_10}
use Rattle.endtoend.proofs.FitsByTable.{before_by_table, fits_by_table}
use Rattle.pagetheorems.proofs.Fits.{page_fits, none_negative}
use Rattle.pagetheorems.proofs.Rows.{complete}

-- by a table without large samples
module _ (table : TableEntries) (small : SmallSamples table) where
  -- of a cleared record
  pub the_page : (book : Book) → length book.bids ≡ 8 → (clear_sampled table (book_entries book)).verdict ≡ Accepted → ThePage (clear_sampled table (book_entries book)).award
  the_page book held accepted =
      let a = (clear_sampled table (book_entries book)).award in
      let fits = page_fits table small book held accepted in
      let whole = complete table book held accepted in
      let lines = subst (λ (n : ℕ). PageLines (n + 1) (page_text a)) whole.many (page_lines a fits) in
      record {
        fits = fits;
        lines = lines;
        short = omega (arith, lines_length (a.count + 1) (page_text a) lines, few table small book held accepted);
        read = award_back a fits (none_negative table small book held accepted) whole;
      }

  -- of a cleared text
  module _ (t : List ℕ) (accepted : (clear_text_sampled table t).verdict ≡ Accepted) where
    abbrev a : Award
    a = (clear_text_sampled table t).award

    pub text_page : ThePage a
    text_page = of_records table t accepted (λ (b : BookEntries) (x : Award). ThePage x) the_page

    pub page_length : length (page_text a) ≡ 65 * (a.count + 1)
    page_length = lines_length (a.count + 1) (page_text a) text_page.lines

    -- what is read is what the sheet shows
    pub columns_give_sheet : sheet_text (award_in (page_text a)) ≡ sheet_text a
    columns_give_sheet = ap sheet_text text_page.read

-- by the printed table: 585 bytes hold whatever is printed, and with them no page is refused by 10
module _ (t : List ℕ) where
  pub page_prints_fit : length (page_prints t) ≤ 585
  page_prints_fit =
      printed_fits page_text 585 (clear_text t) (before_output t printed_table) (λ e. (text_page printed_table printed_small t e).short) (omega arith)

  module _ (out : List ℕ) (enough : 585 ≤ length out) where
    pub page_never_short : (place : ℕ) → (page_written t (length out)).verdict ≡ Refused OutputLength place → ⊥
    page_never_short =
        never_10 page_text 585 (clear_text t) (before_output t printed_table) (λ e. (text_page printed_table printed_small t e).short) out enough

    -- a page is refused exactly where a sheet is, each in an output that is long enough
    pub as_sheet : (other : List ℕ) → 600 ≤ length other → (page_written t (length out)).verdict ≡ (sheet_written t (length other)).verdict
    as_sheet other k =
        same_verdict page_text 585 (clear_text t) (before_output t printed_table) (λ e. (text_page printed_table printed_small t e).short) out enough
        ∙ sym (sheet_verdict t other k)

-- the bytes that are written, as many as are answered, give the award again
module _ (t out : List ℕ) (accepted : (page_written t (length out)).verdict ≡ Accepted) where
  pub written_read : award_in (take (page_written t (length out)).bytes (page_output t out)) ≡ (clear_text t).award
  unfolding written_as output_as written_of
  written_read =
      let c = clear_text t in
      let page = page_text c.award in
      ap award_in (text_written c.verdict page out accepted)
      ∙ (text_page printed_table printed_small t (accepted_before c.verdict page out accepted)).read

-- and by a table that comes as text
module _ (s t : List ℕ) where
  pub page_prints_fit_by_table : length (printed_as page_text (cleared_by_table s t)) ≤ 585
  page_prints_fit_by_table =
      printed_fits page_text 585 (cleared_by_table s t) (before_by_table s t)
      (fits_by_table s t page_text 585 (λ table small e. (text_page table small t e).short)) (omega arith)
