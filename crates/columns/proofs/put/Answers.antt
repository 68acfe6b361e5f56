-- So many spaces are put as the length of what is shown leaves of the width, and right after them what is shown.
use Rattle.std.proofs.Common.{◌≡◌, ℕ, ◌-◌, ◌++◌, length, ap, arith}
use lib.ListN.{replicate}
use Rattle.forms.specs.Column.{right}
use Rattle.printer.proofs.Puts.{puts_as, puts_then}
use Rattle.columns.specs.Shown.{shown_text}
use Rattle.columns.proofs.put.Goals as goal

pub returns-clause-puts : goal.returns-clause-puts
unfolding right
returns-clause-puts c =
    let text = shown_text c.args.shown in
    let count : c.saturating_sub-spaces.result ≡ c.args.width - length text = omega arith in
    puts_as (ap (λ (n : ℕ). replicate n 32 ++ text) count) (puts_then c.put_spaces.ensures c.put_shown.ensures.puts)
