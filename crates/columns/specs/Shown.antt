-- What stands in a column, as text.
use Rattle.std.specs.Prelude.{ℕ, List}
use Rattle.forms.specs.Digits.{digits}
use Rattle.forms.specs.Money.{money_text}
use Rattle.words.specs.WordText.{word_text}
use Rattle.columns.specs.declared.Shown.{Shown}
use Rattle.columns.specs.declared.Shown.TheVariants.{InWord, InDigits, InMoney}

abbrev pub shown_text : Shown → List ℕ
shown_text (InWord word) = word_text word
shown_text (InDigits n) = digits n
shown_text (InMoney cents) = money_text cents.0
