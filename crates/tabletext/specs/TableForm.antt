-- The sampling table's text as a form of text, part by part.
use Rattle.std.specs.Prelude.{ℕ, List, length}
use Rattle.forms.specs.Bytes.{ascii}
use Rattle.forms.specs.Form.{Form}
use Rattle.forms.specs.Combined.{via, framed}
use Rattle.forms.specs.Many.{one_or_more}
use Rattle.forms.specs.Spaced.{Numbers, numbers}
use Rattle.sampling.specs.declared.Band.{Band}
use Rattle.sampling.specs.Entries.{TableEntries}
use Rattle.tabletext.specs.TableText.{band_text, table_text}
use Rattle.tabletext.specs.WellFormed.{WellFormedBand, WellFormedTable}

-- a band's line: the highest quantity, and one further number, the sample
abbrev pub band_further : ℕ
band_further = 1

abbrev pub band_numbers : Form (Numbers band_further)
band_numbers = framed (ascii "(band ") (numbers band_further) (ascii ")\n")

abbrev pub to_band : Numbers band_further → Band
to_band x = record { highest = x.0; sample = x.1 }

abbrev pub band_line : Form Band
band_line = via band_numbers to_band WellFormedBand band_text

-- one or more, each beginning with `(`
abbrev pub band_lines : Form (List Band)
band_lines = one_or_more 40 band_line

-- the table
abbrev pub table_of : List Band → TableEntries
table_of xs = record { count = length xs; bands = xs }

abbrev pub table : Form TableEntries
table = via band_lines table_of WellFormedTable table_text
