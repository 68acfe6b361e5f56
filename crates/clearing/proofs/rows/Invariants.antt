-- The rows of the bids passed are made.
use Rattle.sampling.specs.Entries.{table_entries}
use Rattle.clearing.proofs.Made.{Made}
use Rattle.clearing.proofs.rows.Given as goal

abbrev pub invariant-loop-i : goal.invariant-loop-i
invariant-loop-i l = Made (table_entries l.fn.table) l.fn.book l.fn.award.quantities l.rows l.i
