-- The words as text: document 01, sections "The bid book" and "The sheet"; `(band ` is of the sampling table, document 02, change 3, and the
-- last two are of the page, change 1.
use Rattle.std.specs.Prelude.{ℕ, List}
use Rattle.forms.specs.Bytes.{ascii}
use Rattle.words.specs.declared.Word.{Word}
use Rattle.words.specs.declared.Word.TheVariants.{Award, Buy, Refused, Seg, Space, Without, WithoutNone, Close, CloseLine, CloseRow, Demand, Bid, Band, None, EndLine}

abbrev pub word_text : Word → List ℕ
word_text Award = ascii "(award "
word_text Buy = ascii "(buy "
word_text Refused = ascii "(refused "
word_text Seg = ascii " (seg "
word_text Space = ascii " "
word_text Without = ascii " (without "
word_text WithoutNone = ascii " (without none"
word_text Close = ascii ")"
word_text CloseLine = ascii ")\n"
word_text CloseRow = ascii "))\n"
word_text Demand = ascii "(demand "
word_text Bid = ascii "(bid "
word_text Band = ascii "(band "
word_text None = ascii "none"
word_text EndLine = ascii "\n"
