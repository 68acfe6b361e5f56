-- Four texts, each put right after the one before it. A decimal is below 10, and so a number of one digit.
use Rattle.std.proofs.Common.{arith, ℕ, ◌/◌, ◌%◌, ◌≡◌, ◌++◌, append_assoc}
use Rattle.forms.specs.Bytes.{ascii}
use Rattle.forms.specs.Digits.{digits}
use Rattle.forms.specs.Money.{decimal_text}
use Rattle.forms.proofs.Digits.{digits_one}
use Rattle.printer.proofs.Puts.{puts_as, puts_then}
use Rattle.printer.proofs.Output.decimal.Goals as goal

in_numbers : (n : ℕ) → digits (n / 100) ++ (ascii "." ++ (digits (n / 10 % 10) ++ digits (n % 10))) ≡ decimal_text n
unfolding decimal_text
in_numbers n = rw (digits_one (n / 10 % 10) (omega arith), digits_one (n % 10) (omega arith)) (simp append_assoc)

pub returns-clause-puts : goal.returns-clause-puts
returns-clause-puts c =
    puts_as (in_numbers c.args.n)
    (puts_then c.number.ensures.puts (puts_then c.word.ensures.puts (puts_then c.number-2.ensures.puts c.number-3.ensures.puts)))
