-- The tests together say that nothing is better, ties counted.
use Rattle.std.proofs.Common.{◌≡◌, true, ℕ, take, sym, subst, leb-true}
use Rattle.divisions.specs.Award.{gives_more}
use Rattle.choices.specs.Choice.{ends_in_order}
use Rattle.choicerecord.specs.Records.{chosen}
use Rattle.choicerecord.proofs.Choosing.{length_chosen}
use Rattle.comparison.specs.Records.{blanks_in}
use Rattle.hopeless.specs.Hopeless.{WinsTies}
use Rattle.search.proofs.Cuts.{small_sums}
use Rattle.search.proofs.lost.Goals as goal

pub hopeless-requires : goal.hopeless-requires
hopeless-requires c =
    let p = c.requires in
    record { within = p.within; small = small_sums _ _ c.args.c _ c.args.bounds.now.capped p.sums_of_lem }

pub returns-clause-wins_ties : goal.returns-clause-wins_ties
returns-clause-wins_ties c = λ e kept is.
    let a = c.args in
    let wins : WinsTies a.bounds.now.order (chosen a.c) c.in-Some.kept = record {
      few = leb-true _ _ (sym c.if-not-no_more_blanks.ensures);
      more =
          subst (λ (k : ℕ). gives_more (take k (blanks_in c.in-Some.kept.quantities)) (ends_in_order (chosen a.c)) ≡ true) (sym (length_chosen a.c))
          (sym c.if-not-behind.ensures);
    } in
    let same : c.in-Some.kept ≡ kept = cc in
    subst (WinsTies a.bounds.now.order (chosen a.c)) same wins
