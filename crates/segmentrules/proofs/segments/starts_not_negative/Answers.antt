-- The chain tests each segment, and each keeps rule 5.
use Rattle.std.proofs.Common.{rules, tests, ap, ◌∙◌}
use Rattle.std.proofs.lemmas.Iterator.{YieldsList-from_slice}
use Rattle.std.proofs.lemmas.Iterator.Adapters.{serves_from_places}
use Rattle.std.proofs.lemmas.Iterator.Search.{all_from_yields_List}
use Rattle.lists.proofs.Everywhere.{every_at}
use Rattle.book.specs.Rules.{segment_in_range, start_not_negative}
use Rattle.segmentrules.proofs.Listed.{every_listed}
use Rattle.segmentrules.proofs.segments.starts_not_negative.Goals as goal

pub all-requires-clause-callable : goal.all-requires-clause-callable
all-requires-clause-callable c =
    serves_from_places (YieldsList-from_slice c.args.segments.now cc) (λ x q k. search (rules, tests))
    (λ x k h e. let kept = ap segment_in_range e ∙ every_at segment_in_range c.args.segments.now k x.now h c.requires in search (rules, tests))

pub returns : goal.returns
returns c =
    all_from_yields_List start_not_negative _ _ _ c.all.ensures.ran (YieldsList-from_slice c.args.segments.now cc) (λ x b q k. search (rules, tests))
    ∙ every_listed _ _
