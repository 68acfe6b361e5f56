-- The segment is one of the bid's supply function, and takes the place of the one that bidder i had.
use mathlib.Core.List.{Memᴰ as In}
use Rattle.lists.proofs.Members.{in_at}
use Rattle.book.specs.Entries.{bid_entries}
use Rattle.supply.specs.Supply.{segment0, supply_of}
use Rattle.supply.proofs.Accepted.{sound_segment_at}
use Rattle.search.proofs.Choosing.{exchanged_from}
use Rattle.search.proofs.first.with_number.Goals as goal

pub exchange-requires : goal.exchange-requires
exchange-requires c =
    let of_bid = c.segment_of-s.ensures in
    record {
      segment = rw of_bid.value (sound_segment_at (bid_entries c.args.bid) c.requires.accepted _ of_bid.number_in_bounds);
      bidder = c.requires.bidder;
    }

pub returns : goal.returns
returns c =
    let of_bid = c.segment_of-s.ensures in
    let supply = supply_of (bid_entries c.args.bid) in
    let offered : In c.segment_of-s.result supply = rw of_bid.value (in_at segment0 supply _ of_bid.number_in_bounds) in
    exchanged_from c.exchange.ensures.count_value c.exchange.ensures.exchanged supply offered
