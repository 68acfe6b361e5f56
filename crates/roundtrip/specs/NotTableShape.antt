-- Refusal 2 of a sampling table's text (document 02, change 3), in the words of document 01.
use Rattle.std.specs.Prelude.{ℕ, ◌≤◌, List, length}
use Rattle.forms.specs.Shape.{TextOf, Longest}
use Rattle.sampling.specs.Entries.{TableEntries}
use Rattle.tabletext.specs.TableText.{table_text}
use Rattle.tabletext.specs.WellFormed.{WellFormedTable}

-- The text is not of the shape, and n is the length of the longest beginning that some text of the shape also has.
pub record NotTableShape (t : List ℕ) (n : ℕ) : Type 0 where
  pub short : length t ≤ 4096
  pub no_table : (e : TableEntries) → TextOf WellFormedTable table_text t e → ⊥
  pub longest : Longest WellFormedTable table_text t n
