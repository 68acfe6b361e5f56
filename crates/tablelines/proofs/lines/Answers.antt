-- Bands are added one after the other, each of which takes at least a byte; in the end these are all lines. Assumes nothing.
use Rattle.std.proofs.Common.{refl}
use Rattle.scanner.proofs.Collecting.{collected, counted_on}
use Rattle.tablelines.proofs.Kept.{bands, bands_scanned}
use Rattle.tablelines.proofs.lines.Goals as goal

pub one_or_more-requires-clause-goes_on : goal.one_or_more-requires-clause-goes_on
one_or_more-requires-clause-goes_on c = λ k from s next may b.
    counted_on bands (λ t. t.count) (λ k a. refl) b b.met (may b.shown b.shows) (λ p h. h)

pub returns : goal.returns
returns c =
    let items = c.one_or_more in
    bands_scanned c.empty_table.result c.empty_table.ensures c.args.reader.now items.result items.new.reader
    (collected bands c.empty_table.result c.args.reader.now items.result items.new.reader items.ensures (λ k from next result met. met))
