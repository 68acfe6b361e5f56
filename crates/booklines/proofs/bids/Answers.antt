-- Bids are added one after the other, each of which takes at least a byte.
use Rattle.std.proofs.Common.{refl}
use Rattle.scanner.proofs.Collecting.{collected, counted_on}
use Rattle.booklines.proofs.Listings.{bids}
use Rattle.booklines.proofs.bids.Goals as goal

pub one_or_more-requires-clause-goes_on : goal.one_or_more-requires-clause-goes_on
one_or_more-requires-clause-goes_on c = λ k from s next may b.
    counted_on bids (λ r. r.count) (λ k a. refl) b b.met (may b.shown b.shows) (λ p h. h)

pub returns : goal.returns
returns c =
    let items = c.one_or_more in
    collected bids c.args.head c.args.reader.now items.result items.new.reader items.ensures (λ k from next result met. met)
