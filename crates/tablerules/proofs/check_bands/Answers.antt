-- The bands before `i` are accepted, so those left decide, from the line `i + 1` on; one that breaks a rule ends the loop.
use Rattle.std.proofs.Common.{◌+◌, Bool, sym, ap, ◌∙◌, arith, rules}
use Rattle.refusal.specs.Checks.{unless}
use Rattle.refusal.specs.declared.Rule.TheVariants.{SamplingTable}
use Rattle.sampling.proofs.Bands.{bands_next, bands_stop, bands_done}
use Rattle.tablerules.proofs.check_bands.Goals as goal

pub returns-in_err-unless : goal.returns-in_err-unless
returns-in_err-unless c =
    let e = ap (λ (t : Bool). unless t SamplingTable (c.loop-i.i + 1)) (sym c.keeps.ensures) ∙ sym c.unless.ensures ∙ c.in_err-unless.was in
    let stop = sym (c.loop-i.invariant ∙ bands_stop (c.loop-i.i + 1) c.loop-i.before c.args.bands.now c.loop-i.i _ c.loop-i-test.true (omega arith) _ e) in
    search rules

pub loop-i-preserved : goal.loop-i-preserved
loop-i-preserved c =
    let e = ap (λ (t : Bool). unless t SamplingTable (c.loop-i.i + 1)) (sym c.keeps.ensures) ∙ sym c.unless.ensures ∙ c.in_ok-unless.was in
    c.loop-i.invariant
    ∙ bands_next (c.loop-i.i + 1) c.loop-i.before c.args.bands.now c.loop-i.i _ c.loop-i-test.true (omega arith) e

pub returns : goal.returns
returns c = sym (c.loop-i.invariant ∙ bands_done (c.loop-i.i + 1) c.loop-i.before c.args.bands.now c.loop-i.i _ (omega arith) (omega arith))
