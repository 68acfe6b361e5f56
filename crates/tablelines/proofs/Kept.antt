-- A record filled with one band after the other. Assumes nothing.
use mathlib.Core.List.{List, [], ◌∷◌, ◌++◌}
use mathlib.Core.Path.{◌≡◌, refl, ap, ◌∙◌}
use Rattle.lists.proofs.Filled.{added_padded, one_more, filled}
use Rattle.std.specs.Prelude.{Result, Ok, Err}
use Rattle.scanner.specs.declared.Reader.{Reader}
use Rattle.scanner.specs.declared.Stop.{Stop}
use Rattle.scanner.specs.Scans.{ScansAs}
use Rattle.scanner.proofs.Scanned.{scans_via}
use Rattle.scanner.proofs.Collecting.{Listing}
use Rattle.sampling.specs.declared.Band.{Band}
use Rattle.sampling.specs.declared.Table.{Table}
use Rattle.tabletext.specs.Record.{empty_band, empty_table, table_record}
use Rattle.tabletext.specs.TableForm.{band_line, band_lines, table_of, table}
use Rattle.tabletext.specs.TableText.{table_text}
use Rattle.tabletext.specs.WellFormed.{WellFormedTable}
use Rattle.tabletext.proofs.TableForm.{band_laws, band_open}
use Rattle.tablelines.specs.Adding.{with_band, with_bands}

band_added : (xs : List Band) (b : Band) → with_band (table_record (table_of xs)) b ≡ table_record (table_of (xs ++ b ∷ []))
unfolding table_record
band_added xs b = rw (one_more xs b, added_padded 16 empty_band xs b)

none_filled : empty_table ≡ table_record (table_of [])
unfolding table_record
none_filled = refl

pub bands_filled : (xs : List Band) → with_bands empty_table xs ≡ table_record (table_of xs)
bands_filled xs = ap (λ (r : Table). with_bands r xs) none_filled ∙ filled with_band (λ ys. table_record (table_of ys)) band_added xs []

-- the bands as they are added to a record
abbrev pub bands : Listing Band Table
bands = record { x = 40; form = band_line; laws = band_laws; heads = band_open; add = with_band }

-- lines that were read are a table
pub bands_scanned : (k : Table) → k ≡ empty_table → (from : Reader) (result : Result Table Stop) (next : Reader)
    → ScansAs band_lines (with_bands k) from result next
    → ScansAs table table_record from result next
bands_scanned k none from (Ok r) next y = (
  table_of y.0,
  y.1 ∙ ap (λ t. with_bands t y.0) none ∙ bands_filled y.0,
  scans_via band_lines table_of WellFormedTable table_text from (Ok y.0) next y.2,
)
bands_scanned k none from (Err stop) next y = scans_via band_lines table_of WellFormedTable table_text from (Err stop) next y
