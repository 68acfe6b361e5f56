-- The segment that `find` gives is sound, and the quantity on it small, so the price fits.
use Rattle.std.proofs.Common.{arith}
use Rattle.book.specs.Entries.{bid_entries}
use Rattle.supply.specs.Sound.{SoundSegment}
use Rattle.supply.proofs.Supply.{number_counted}
use Rattle.supply.proofs.Sound.{price_fits}
use Rattle.supply.proofs.Accepted.{sound_segment_at, found_small}
use Rattle.supply.proofs.price_at.Goals as goal

pub segment_of-there-requires : goal.segment_of-there-requires
segment_of-there-requires c = record { accepted = c.requires; within = omega (arith, number_counted c.args.bid _ c.in_ok-number.ensures.there) }

pub price-requires : goal.price-requires
price-requires c =
    let there = c.segment_of-there in
    let bid = bid_entries c.args.bid in
    let sound : SoundSegment there.result = rw there.ensures.value (sound_segment_at bid c.requires _ there.ensures.number_in_bounds) in
    price_fits there.result _ sound (found_small bid c.requires _ _ c.in_ok-number.ensures)
