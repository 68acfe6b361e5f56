-- A choice that does not fit leaves the best so far; the cheapest quantities of one that fits are compared with it.
use Rattle.std.proofs.Common.{sym, ◌∙◌}
use Rattle.choicerecord.specs.Records.{chosen}
use Rattle.comparison.specs.Records.{division_in, found}
use Rattle.search.proofs.Steps.{unfit, fit}
use Rattle.search.proofs.leaf.Goals as goal

pub returns-then-not-fits : goal.returns-then-not-fits
returns-then-not-fits c =
    let a = c.args in
    unfit a.order (chosen a.c) (found a.c.count a.best) (sym c.if-not-fits.ensures)

pub returns : goal.returns
returns c =
    let a = c.args in
    let n = a.c.count in
    c.pick.ensures ∙ fit a.order (chosen a.c) (found n a.best) (sym c.if-not-fits.ensures) (division_in n c.fill-new.result) c.fill-new.ensures
