-- The head, the segments and the end of the line are put each right after what is before it (`puts_then`), as in the text.
use Rattle.std.proofs.Common.{append_assoc}
use Rattle.booktext.specs.BookText.{bid_text}
use Rattle.printer.proofs.Puts.{puts_as, puts_then}
use Rattle.bookwriter.proofs.bids.put_bid.Goals as goal

pub returns-clause-puts : goal.returns-clause-puts
unfolding bid_text
returns-clause-puts c =
    puts_as (simp append_assoc)
    (puts_then (puts_then (puts_as c.bid_head.ensures c.put.ensures.puts) c.put_segments.ensures.puts) c.put_part.ensures.puts)
