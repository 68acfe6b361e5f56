-- What stands before the magnitude of a number: `-` where it is below 0.
use Rattle.std.specs.Prelude.{ℕ, List, [], ℤ, pos, negsuc}
use Rattle.forms.specs.Bytes.{ascii}

unfoldable pub sign : ℤ → List ℕ
sign (pos n) = []
sign (negsuc n) = ascii "-"
