-- The best so far is that of the segments tried, and each call has a bidder fewer left.
use Rattle.std.proofs.Common.{◌-◌}
use Rattle.search.proofs.Turns.{Tried}
use Rattle.search.proofs.Search.+search.Given as goal

-- the bidders left
abbrev pub decreases-search : goal.decreases-search
decreases-search l = l.self.now.book.now.count - l.c.count

-- the segments from j on are tried
abbrev pub invariant-loop-j : goal.invariant-loop-j
invariant-loop-j l = Tried l.self.book.now l.c l.initial.so_far l.j l.so_far
