-- What every text gets of an answer about a named bidder of its book: document 02, change 8.
use Rattle.std.specs.Prelude.{ℕ, List}
use Rattle.bookanswers.specs.BookAnswers.{answer_of}
use Rattle.toodear.specs.declared.TooDear.{TooDear}
use Rattle.toodear.specs.TooDear.{no_amount, too_dear_of}

-- how much too dear it was: refused by 1, 2, 3 to 8, then 13, then 9
unfoldable pub too_dear_text : List ℕ → ℕ → TooDear
too_dear_text t bidder = answer_of (λ b. too_dear_of b bidder) no_amount t
