-- The words of demand 3 fix every byte of the sheet and of the page: two records of a book's award have the same text, if that shows
-- no more of them than demand, what is bought, total and the rows of the bids. Assumes nothing.
use Prim.Native.Nat.{ℕ, ◌<◌}
use native.Mathlib.Omega.{arith}
use mathlib.Core.List.{List}
use mathlib.Core.Path.{◌≡◌, refl, sym, ap, ap₂, ◌∙◌}
use lib.ListN.{length, get_or, length-map}
use lib.Seq.{get_or-take, ext_get_or}
use Rattle.lists.proofs.Slices.{take_most}
use Rattle.book.specs.Entries.{BookEntries}
use Rattle.sampling.specs.Entries.{TableEntries}
use Rattle.supply.specs.Supply.{supplies_of}
use Rattle.supply.specs.Allocation.{bought}
use Rattle.divisions.specs.Award.{Priced}
use Rattle.divisions.proofs.Award.{as_many, only_award}
use Rattle.award.specs.declared.Total.{Total}
use Rattle.award.specs.declared.Total.TheVariants.{Amount, Nothing}
use Rattle.award.specs.declared.Row.{Row}
use Rattle.award.specs.declared.Award.{Award}
use Rattle.award.specs.Award.{no_row, row_of}
use Rattle.without.specs.Without.{book_without}
use Rattle.awardtheorems.specs.OfBook.{IsAwardOf}
use Rattle.awardtheorems.specs.Awarded.{rows_of, row_at, awarded}
use Rattle.sheettext.specs.Sheet.{first_text, sheet_text}
use Rattle.pagetext.specs.Page.{page_first, page_text}
use Rattle.endtoend.specs.TheAward.{TotalOf, bid_at, TheAward}
use Rattle.endtoend.specs.Shown.{ShowsRowsOnly}

one_award : (b : BookEntries) (p q : Priced) → IsAwardOf b p → IsAwardOf b q → p ≡ q
one_award b p q x y =
    let e = only_award b.order (supplies_of b.bids) p x in
    let f = only_award b.order (supplies_of b.bids) q y in
    cc

one_total : (b : BookEntries) (x y : Total) → TotalOf b x → TotalOf b y → x ≡ y
one_total b (Amount c) (Amount d) (p, is, e) (q, is', f) =
    let cents : c.0 ≡ d.0 = sym e ∙ ap (λ (x : Priced). x.cost) (one_award b p q is is') ∙ f in
    λ i. Amount (record { 0 = cents i })
one_total b (Amount c) Nothing (p, is, e) uncovered = absurd (uncovered p.quantities is.division)
one_total b Nothing (Amount d) uncovered (q, is, f) = absurd (uncovered q.quantities is.division)
one_total b Nothing Nothing x y = refl

module _ (table : TableEntries) (b : BookEntries) (x y : Award) (this : TheAward table b x) (that : TheAward table b y) where
  same_awarded : awarded x ≡ awarded y
  same_awarded = one_award b (awarded x) (awarded y) this.best that.best

  same_row : (i : ℕ) → i < b.count → row_at x i ≡ row_at y i
  same_row i h =
      let quantity = ap (λ (p : Priced). get_or p.quantities i 0) same_awarded in
      let total = one_total (book_without i b) (row_at x i).without (row_at y i).without (this.without i h) (that.without i h) in
      this.rows i h ∙ ap₂ (λ (r : ℕ) (t : Total). row_of table (bid_at b i) r t) quantity total ∙ sym (that.rows i h)

  many : (a : Award) → TheAward table b a → length (rows_of a) ≡ length b.bids
  many a is =
      sym (length-map (rows_of a) (λ (row : Row). row.quantity.0))
      ∙ as_many (supplies_of b.bids) (awarded a).quantities is.best.division.allocation
      ∙ length-map b.bids _

  same_rows : rows_of x ≡ rows_of y
  same_rows = ext_get_or no_row (rows_of x) (rows_of y) (many x this ∙ sym (many y that)) (λ i h.
      let within : i < b.count = omega (arith, h, (take_most x.count x.rows).0, this.count) in
      get_or-take x.count x.rows i no_row (omega (arith, this.count))
      ∙ same_row i within
      ∙ sym (get_or-take y.count y.rows i no_row (omega (arith, that.count))))

  same_bought : x.bought.0 ≡ y.bought.0
  same_bought = this.bought ∙ ap (λ (p : Priced). bought p.quantities) same_awarded ∙ sym that.bought

  pub one_text : (text : Award → List ℕ) → ShowsRowsOnly text → text x ≡ text y
  one_text text shows = shows x y (this.demand ∙ sym that.demand) same_bought (ap (λ (p : Priced). p.cost) same_awarded) same_rows

-- neither the sheet nor the page shows more

pub sheet_shows : ShowsRowsOnly sheet_text
unfolding sheet_text first_text
sheet_shows x y demand sold total rows = rw (demand, sold, total, rows)

pub page_shows : ShowsRowsOnly page_text
unfolding page_text page_first
page_shows x y demand sold total rows = rw (demand, sold, total, rows)
