-- What the columns of a page say is the award that it shows. Assumes nothing.
use Prim.Native.Nat.{ℕ, ◌-◌, ◌/◌}
use native.Mathlib.Omega.{arith}
use mathlib.Core.List.{List, [], ◌++◌, map, append_assoc}
use mathlib.Core.Path.{◌≡◌, sym, ap, ◌∙◌}
use lib.IntN.{pos}
use lib.ListN.{length, drop}
use Rattle.lists.specs.All.{All}
use Rattle.lists.specs.Joined.{joined}
use Rattle.lists.specs.Padded.{padded}
use Rattle.lists.proofs.All.{all_both, all_from, map_back}
use Rattle.forms.specs.Bytes.{ascii}
use Rattle.award.specs.declared.Row.{Row}
use Rattle.award.specs.declared.Award.{Award}
use Rattle.award.specs.Award.{no_row}
use Rattle.pagetext.specs.Page.{first_columns, row_columns, page_first, page_row, page_text}
use Rattle.pagetext.specs.ReadBack.{number_in, cents_in, columns, row_in, lines_in, award_in}
use Rattle.pagetext.specs.Fits.{RowFits, rows_shown, PageFits}
use Rattle.pagetext.proofs.Columns.{columns_text, StandFrom, stand}
use Rattle.pagetext.proofs.Page.{lines_found, rows_lines, page_length, page_rows}
use Rattle.pagetext.proofs.Numbers.{number_back}
use Rattle.pagetext.proofs.Amounts.{FromZero, TotalFromZero, money_back, total_back}

-- no amount is negative
pub record RowFromZero (row : Row) : Type 0 where
  pub price : FromZero row.price.0
  pub without : TotalFromZero row.without

pub record AwardFromZero (award : Award) : Type 0 where
  pub total : FromZero award.total.0
  pub rows : All RowFromZero (rows_shown award)

-- a record has as many rows as it counts, and past them zeros and `none`
pub record Complete (award : Award) : Type 0 where
  pub many : length (rows_shown award) ≡ award.count
  pub past : award.rows ≡ padded 8 no_row (rows_shown award)

pub row_back : (row : Row) → RowFits row → RowFromZero row → row_in (page_row row) ≡ row
unfolding row_in page_row
row_back row fits from_zero =
    let (bidder, (segment, (quantity, (price, (sample, (without, _)))))) = stand [] (row_columns row) (ascii "\n") fits in
    let amount = money_back 20 row.price.0 from_zero.price in
    let total = total_back 18 row.without from_zero.without in
    simp (bidder, segment, quantity, price, sample, without, number_back, amount, total)

module _ (award : Award) (fits : PageFits award) where
  -- the first line stands at the beginning of the page
  first_stands : StandFrom 0 (page_text award) (first_columns award)
  unfolding page_first page_text
  first_stands =
      let cs = first_columns award in
      rw (append_assoc (columns_text cs)) (stand [] cs (ascii "\n" ++ joined page_row (rows_shown award)) fits.first)

  pub demand_back : number_in (columns 0 20 (page_text award)) ≡ award.demand.0
  demand_back = ap number_in first_stands.0 ∙ number_back 20 award.demand.0

  pub bought_back : number_in (columns 20 20 (page_text award)) ≡ award.bought.0
  bought_back = ap number_in first_stands.1.0 ∙ number_back 20 award.bought.0

  pub price_back : FromZero award.total.0 → pos (cents_in (columns 40 24 (page_text award))) ≡ award.total.0
  price_back e = ap (λ (s : List ℕ). pos (cents_in s)) first_stands.1.1.0 ∙ money_back 24 award.total.0 e

  pub count_back : length (page_text award) / 65 - 1 ≡ length (rows_shown award)
  count_back = omega (arith, page_length award fits)

  pub rows_back : All RowFromZero (rows_shown award) → map row_in (lines_in (length (rows_shown award)) (drop 65 (page_text award))) ≡ rows_shown award
  unfolding rows_lines
  rows_back from_zero =
      let rows = rows_shown award in
      let found = lines_found (length rows) (joined page_row rows) (rows_lines rows fits.rows) in
      let both = all_both RowFits RowFromZero rows fits.rows from_zero in
      let each = all_from (λ row. RowFits row × RowFromZero row) (λ row. row_in (page_row row) ≡ row) (λ row h. row_back row h.0 h.1) rows both in
      ap (map row_in) (ap (lines_in (length rows)) (page_rows award fits) ∙ found) ∙ map_back page_row row_in rows each

  -- the whole record
  pub award_back : AwardFromZero award → Complete award → award_in (page_text award) ≡ award
  unfolding award_in
  award_back from_zero complete =
      rw (demand_back, bought_back, price_back from_zero.total, count_back, rows_back from_zero.rows)
      (λ i. record { demand = award.demand; bought = award.bought; total = award.total; count = complete.many i; rows = sym complete.past i })
