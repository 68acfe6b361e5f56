-- A text set to the right in so many columns, with spaces before it. One that is longer than its columns stands whole.
use Rattle.std.specs.Prelude.{ℕ, ◌-◌, List, ◌++◌, length, replicate}

unfoldable pub right : ℕ → List ℕ → List ℕ
right width s = replicate (width - length s) 32 ++ s
