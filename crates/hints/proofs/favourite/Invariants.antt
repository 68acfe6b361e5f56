-- A number kept is one that the bid has.
use Rattle.std.proofs.Common.{◌≤◌, MatchOption}
use Rattle.hints.proofs.favourite.Given as goal

-- a number kept is one of the bid
abbrev pub invariant-loop-j : goal.invariant-loop-j
invariant-loop-j l = MatchOption l.best (Unit {0}) (λ kept. kept.1 ≤ l.bid.count)
