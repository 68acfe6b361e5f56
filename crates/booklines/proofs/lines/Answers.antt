-- The line of the demand and the bids, read one after the other (`book_scanned`).
use Rattle.bookrecord.proofs.Kept.{no_bids}
use Rattle.booklines.proofs.Whole.{book_scanned}
use Rattle.booklines.proofs.lines.Goals as goal

pub bids-requires : goal.bids-requires
bids-requires c = let h = c.in_ok-head.ensures in no_bids h.0 c.in_ok-head.head h.1

pub returns : goal.returns
returns c =
    let h = c.in_ok-head.ensures in
    book_scanned c.args.reader.now c.demand.new.reader h.0 h.2 c.in_ok-head.head h.1 c.bids.result c.bids.new.reader c.bids.ensures
