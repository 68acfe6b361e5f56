-- Each segment passed is one of the bid.
use Rattle.hints.proofs.Hinted.{hinted_segment}
use Rattle.hints.proofs.favourite.Goals as goal

pub charge-here-requires : goal.charge-here-requires
charge-here-requires c =
    let s = c.segment_of-s in
    record {
      sound = hinted_segment c.args.bid c.requires.accepted _ s.result (s.ensures.number_in_bounds, s.ensures.value);
      capped = c.requires.capped;
    }
