-- What is put into an output of 600 bytes is what is to be printed, whole. Assumes nothing.
use Prim.Native.Nat.{ℕ, ◌≤◌}
use native.Mathlib.Omega.{arith}
use mathlib.Core.List.{List}
use lib.ListN.{length}
use Rattle.awardwriter.specs.declared.Layout.{Layout}
use Rattle.awardwriter.specs.declared.Layout.TheVariants.{Sheet, Page}
use Rattle.awardwriter.specs.Layout.{layout_text}
use Rattle.tender.specs.FromText.{cleared_by_table, printed_as, clear_text}
use Rattle.endtoend.proofs.Fits.{prints_fit}
use Rattle.endtoend.proofs.FitsByTable.{prints_fit_by_table}
use Rattle.pagetheorems.proofs.Page.{page_prints_fit, page_prints_fit_by_table}

pub fits : (layout : Layout) (t : List ℕ) → length (printed_as (layout_text layout) (clear_text t)) ≤ 600
fits Sheet t = prints_fit t
fits Page t = omega (arith, page_prints_fit t)

pub fits_by_table : (layout : Layout) (s t : List ℕ) → length (printed_as (layout_text layout) (cleared_by_table s t)) ≤ 600
fits_by_table Sheet s t = prints_fit_by_table s t
fits_by_table Page s t = omega (arith, page_prints_fit_by_table s t)
