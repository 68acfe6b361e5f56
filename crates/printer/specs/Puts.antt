-- An output before a text is put into it, and after.
use Rattle.std.specs.Prelude.{ℕ, List, ◌≡◌, length}
use Rattle.printer.specs.declared.Output.{Output}
use Rattle.printer.specs.Written.{Put}

-- s was put from the place on: the same lent output, as long as before, and its place is now the one after s
pub record Puts (before : Output) (s : List ℕ) (after : Output) : Type 0 where
  pub same : after.bytes.ghost_name ≡ before.bytes.ghost_name
  pub held : length after.bytes.now ≡ length before.bytes.now
  pub put : Put before.bytes.now before.at s after.bytes.now after.at
