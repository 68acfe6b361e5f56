-- Rule 8 looks at segments that have passed rule 5.
use Rattle.std.proofs.Common.{◌≡◌, ◌&&◌, true, sym, ap, ◌∙◌, arith}
use Rattle.lists.specs.Every.{every}
use Rattle.lists.proofs.Tests.{both_right}
use Rattle.book.specs.Entries.{bid_entries}
use Rattle.book.specs.Rules.{within, segment_in_range, bid_in_range}
use Rattle.bidrules.proofs.check_bid.Goals as goal

pub starts_not_negative-requires : goal.starts_not_negative-requires
unfolding bid_in_range
starts_not_negative-requires c =
    let b = bid_entries c.args.bid.now in
    let passed : c.in_range.result ≡ true = grind arith in
    let numbers = within 1 9999 b.bidder && within 0 10000 b.carriage in
    ap (every segment_in_range) c.listed-segments.ensures
    ∙ both_right numbers (every segment_in_range b.segments) (sym c.in_range.ensures ∙ passed)
