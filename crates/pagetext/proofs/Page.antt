-- A page is its lines, one after the other. Assumes nothing.
use Prim.Native.Nat.{ℕ, ◌+◌, ◌*◌}
use native.Mathlib.Omega.{arith}
use mathlib.Core.List.{List, [], ◌∷◌, ◌++◌, map}
use mathlib.Core.Path.{◌≡◌, refl, sym, ap, ap₂, ◌∙◌}
use lib.ListN.{length, drop, length-map}
use lib.Seq.{take_at, drop_at}
use Rattle.lists.specs.All.{All}
use Rattle.lists.specs.Joined.{joined}
use Rattle.lists.proofs.All.{all_from, all_map}
use Rattle.lists.proofs.Joined.{joined_map, joined_each}
use Rattle.award.specs.declared.Row.{Row}
use Rattle.award.specs.declared.Award.{Award}
use Rattle.pagetext.specs.Page.{page_row, page_first, page_text}
use Rattle.pagetext.specs.ReadBack.{lines_in}
use Rattle.pagetext.specs.Fits.{RowFits, rows_shown, PageFits, PageLine, PageLines}
use Rattle.pagetext.proofs.Lines.{first_line, row_line, line_length}

abbrev itself : List ℕ → List ℕ
itself line = line

-- how long n lines are together
pub lines_length : (n : ℕ) (page : List ℕ) → PageLines n page → length page ≡ 65 * n
lines_length n page p =
    let each = all_from PageLine (λ l. length l ≡ 65) line_length p.lines p.each in
    ap length p.is ∙ joined_each itself 65 p.lines each ∙ ap (λ (k : ℕ). 65 * k) p.many

-- and that they are found again
cut : (ls : List (List ℕ)) → All PageLine ls → lines_in (length ls) (joined itself ls) ≡ ls
unfolding lines_in
cut [] h = refl
cut (l ∷ ls) h =
    let size = line_length l h.0 in
    rw (take_at l (joined itself ls) 65 size, drop_at l (joined itself ls) 65 size, cut ls h.1)

pub lines_found : (n : ℕ) (page : List ℕ) (p : PageLines n page) → lines_in n page ≡ p.lines
lines_found n page p = ap₂ lines_in (sym p.many) p.is ∙ cut p.lines p.each

-- of a page: a line for each bid, and one before them
unfoldable pub rows_lines : (rows : List Row) → All RowFits rows → PageLines (length rows) (joined page_row rows)
rows_lines rows fits = record {
  lines = map page_row rows;
  many = length-map rows page_row;
  each = all_map page_row PageLine rows (all_from RowFits (λ row. PageLine (page_row row)) row_line rows fits);
  is = sym (joined_map itself page_row rows);
}

module _ (award : Award) (fits : PageFits award) where
  pub page_lines : PageLines (length (rows_shown award) + 1) (page_text award)
  unfolding page_text
  page_lines =
      let more = rows_lines (rows_shown award) fits.rows in
      record {
        lines = page_first award ∷ more.lines;
        many = omega (arith, more.many);
        each = (first_line award fits.first, more.each);
        is = ap (λ (s : List ℕ). page_first award ++ s) more.is;
      }

  pub page_length : length (page_text award) ≡ 65 * (length (rows_shown award) + 1)
  page_length = lines_length (length (rows_shown award) + 1) (page_text award) page_lines

  -- after the first line
  pub page_rows : drop 65 (page_text award) ≡ joined page_row (rows_shown award)
  unfolding page_text
  page_rows = drop_at (page_first award) (joined page_row (rows_shown award)) 65 (line_length (page_first award) (first_line award fits.first))
