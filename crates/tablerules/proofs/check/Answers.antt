-- The tests stand in the order of the rules; the highest quantity of the last band is that of the record's last counted band.
use Rattle.std.proofs.Common.{◌≡◌, ◌≤◌, ◌<◌, length, sym, ◌∙◌, arith, rules}
use borrow.Author.Tests.{lt-ltb, le-leb}
use Rattle.lists.proofs.Slices.{length_held}
use Rattle.refusal.specs.Verdict.{Accepted}
use Rattle.refusal.proofs.Firsts.{only}
use Rattle.sampling.specs.Entries.{table_entries}
use Rattle.sampling.specs.Sampling.{band}
use Rattle.sampling.proofs.Bands.{last_held}
use Rattle.sampling.specs.Rules.{bands_verdict, table_verdict}
use Rattle.tablerules.proofs.check.Goals as goal

pub returns : goal.returns
unfolding table_verdict
returns c =
    let t = c.args.table in
    let h : length t.bands ≡ 16 = search (length_held, c.well_formed) in
    let some : 0 < t.count = grind arith in
    let few : t.count ≤ 16 = grind arith in
    let accepted : bands_verdict 1 (band 0 0) (table_entries t).bands ≡ Accepted = search rules in
    let last = last_held t.bands t.count some (omega arith) in
    rw (lt-ltb 0 t.count some, accepted, le-leb t.count 16 few, last) (c.unless-3.ensures ∙ sym (only _))
