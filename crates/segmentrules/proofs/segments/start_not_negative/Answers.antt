-- The price at the start fits, by rule 5, and 0 is compared with it.
use Rattle.std.proofs.Common.{arith}
use Rattle.book.proofs.InRange.{in_range, price_fits}
use Rattle.segmentrules.proofs.segments.start_not_negative.Goals as goal

pub price-at_start-requires : goal.price-at_start-requires
price-at_start-requires c =
    let range = in_range _ c.requires in
    price_fits _ range _ (omega (arith, range.start_high, range.end_high))
