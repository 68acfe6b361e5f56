-- A turn puts one bid more right after those before it (`puts_next`), so that after the last turn all are put.
use Rattle.std.proofs.Common.{◌≡◌, length, sym, ap, arith}
use Rattle.lists.proofs.Slices.{length_held, take_most}
use Rattle.printer.proofs.Puts.{puts_none, puts_as, puts_next, puts_all}
use Rattle.bookwriter.proofs.Sizes.{bid_line, bid_lines}
use Rattle.bookwriter.proofs.bids.put_bids.Goals as goal

pub loop-bid-init : goal.loop-bid-init
loop-bid-init c =
    let eight : length c.args.book.bids ≡ 8 = search (length_held, c.well_formed) in
    let listed = ap length c.listed-bid-items.ensures in
    record { few = omega (arith, listed, take_most c.args.book.count c.args.book.bids); place = omega arith; puts = puts_none _ }

pub loop-bid-preserved : goal.loop-bid-preserved
loop-bid-preserved c =
    let at = c.loop-bid in record {
      few = at.invariant.few;
      place = omega (arith, c.put_bid.ensures.upper_bound);
      puts = puts_next bid_line _ at.bid-index _ c.loop-bid-test.true at.invariant.puts c.put_bid.ensures.puts;
    }

pub returns : goal.returns
returns c =
    let all = puts_all bid_line _ _ _ c.loop-bid-test.false c.listed-bid-items.ensures c.loop-bid.invariant.puts in
    puts_as (sym (bid_lines c.args.book)) all
