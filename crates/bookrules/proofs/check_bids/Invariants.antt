-- The bids passed are accepted: what is said of all of them is said of those left, from their line on.
use Rattle.std.proofs.Common.{◌≡◌, ◌+◌, length, map}
use Rattle.book.specs.Entries.{bid_entries}
use Rattle.book.specs.Rules.{bids_verdict}
use Rattle.book.proofs.Bids.{entries_from}
use Rattle.bookrules.proofs.check_bids.Given as goal

abbrev pub invariant-loop-i : goal.invariant-loop-i
invariant-loop-i l = bids_verdict 2 0 (map bid_entries l.bids) ≡ bids_verdict (l.i + 2) l.before (entries_from l.i (length l.bids) l.bids)
