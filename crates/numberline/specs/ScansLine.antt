-- For the contracts of the functions that parse numbers of a line, and of the readers above them.
use Rattle.std.specs.Prelude.{ℕ, ◌-◌, List, Result}
use Rattle.forms.specs.Combined.{framed}
use Rattle.forms.specs.Spaced.{numbers, numbers_in}
use Rattle.scanner.specs.declared.Reader.{Reader}
use Rattle.scanner.specs.declared.Stop.{Stop}
use Rattle.scanner.specs.Scans.{Scans, ok_as}

-- n numbers, from one on, with a space between two of them
abbrev pub ScansNumbers : ℕ → Reader → Result (List ℕ) Stop → Reader → Type 0
ScansNumbers n from result next = Scans (numbers (n - 1)) from (ok_as (numbers_in (n - 1)) result) next

-- the word `start`, such numbers, and the word `close`
abbrev pub ScansLine : List ℕ → ℕ → List ℕ → Reader → Result (List ℕ) Stop → Reader → Type 0
ScansLine start n close from result next = Scans (framed start (numbers (n - 1)) close) from (ok_as (numbers_in (n - 1)) result) next
