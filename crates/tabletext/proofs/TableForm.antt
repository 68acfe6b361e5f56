-- The laws of the sampling table's form, part by part, and that every text has a reading. Assumes nothing.
use Prim.Native.Nat.{ℕ}
use native.Mathlib.Omega.{arith}
use mathlib.Core.List.{List, append_assoc}
use mathlib.Core.Path.{refl, sym}
use Rattle.forms.specs.Bytes.{ascii}
use Rattle.forms.specs.Shape.{Reading}
use Rattle.forms.specs.Spaced.{Numbers}
use Rattle.forms.proofs.Form.{Laws}
use Rattle.forms.proofs.Framed.{framed_laws}
use Rattle.forms.proofs.Spaced.{numbers_laws}
use Rattle.forms.proofs.Via.{Same, via_laws}
use Rattle.forms.proofs.Many.{FirstByte}
use Rattle.forms.proofs.Some.{one_or_more_laws}
use Rattle.forms.proofs.Whole.{reading}
use Rattle.sampling.specs.declared.Band.{Band}
use Rattle.tabletext.specs.TableText.{band_text, table_text}
use Rattle.tabletext.specs.WellFormed.{WellFormedBand, WellFormedTable}
use Rattle.tabletext.specs.TableForm.{band_further, band_numbers, to_band, band_line, band_lines, table_of, table}

-- a band's line
abbrev from_band : Band → Numbers band_further
from_band b = (b.highest, b.sample)

same_band : Same band_numbers to_band from_band WellFormedBand band_text
unfolding band_text
same_band = record {
  to_valid = λ b v. ((omega arith, v.highest), (omega arith, v.sample));
  back = λ b v. refl;
  from_valid = λ x v. record { highest = v.0.1; sample = v.1.1 };
  same_text = λ x v. simp append_assoc;
}

pub band_laws : Laws band_line
band_laws = via_laws (framed_laws (ascii "(band ") (numbers_laws band_further) (ascii ")\n") (λ r l k. omega arith)) same_band

pub band_open : FirstByte 40 band_line
unfolding band_text
band_open b v = (_, refl)

-- the table
same_table : Same band_lines table_of (λ t. t.bands) WellFormedTable table_text
unfolding table_text
same_table = record {
  to_valid = λ t v. (omega (arith, v.count, v.some), v.bands);
  back = λ t v. rw (sym v.count);
  from_valid = λ x v. record { count = refl; some = v.0; bands = v.1 };
  same_text = λ x v. refl;
}

pub table_laws : Laws table
table_laws = via_laws (one_or_more_laws 40 band_line band_laws band_open tt) same_table

-- every text has a reading
pub table_reading : (t : List ℕ) → Reading WellFormedTable table_text t
table_reading t = reading table_laws t
