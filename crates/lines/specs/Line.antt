-- A line as data: what each part of it is as text.
use Rattle.std.specs.Prelude.{ℕ, List, ◌++◌}
use Rattle.forms.specs.Digits.{digits, signed_digits}
use Rattle.forms.specs.Column.{right}
use Rattle.words.specs.WordText.{word_text}
use Rattle.columns.specs.Shown.{shown_text}
use Rattle.lines.specs.declared.Part.{Part}
use Rattle.lines.specs.declared.Part.TheVariants.{Fixed, Number, Price, Column}

abbrev pub part_text : Part → List ℕ
part_text (Fixed w) = word_text w
part_text (Number w n) = word_text w ++ digits n
part_text (Price w c) = word_text w ++ signed_digits c.0
part_text (Column width shown) = right width (shown_text shown)
