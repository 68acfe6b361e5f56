-- The text of a sampling table (document 02, change 3): one band a line, each line ended by byte 10.
use Rattle.std.specs.Prelude.{ℕ, List, ◌++◌}
use Rattle.lists.specs.Joined.{joined}
use Rattle.forms.specs.Bytes.{ascii}
use Rattle.forms.specs.Digits.{digits}
use Rattle.sampling.specs.declared.Band.{Band}
use Rattle.sampling.specs.Entries.{TableEntries}

-- the highest quantity and the sample
unfoldable pub band_text : Band → List ℕ
band_text b = ascii "(band " ++ digits b.highest ++ ascii " " ++ digits b.sample ++ ascii ")\n"

unfoldable pub table_text : TableEntries → List ℕ
table_text t = joined band_text t.bands
