-- The chain tests each segment.
use Rattle.std.proofs.Common.{rules, tests, ◌∙◌}
use Rattle.std.proofs.lemmas.Iterator.{YieldsList-from_slice}
use Rattle.std.proofs.lemmas.Iterator.Search.{all_from_yields_List}
use Rattle.book.specs.Rules.{segment_in_range}
use Rattle.segmentrules.proofs.Listed.{every_listed}
use Rattle.segmentrules.proofs.segments.all_in_range.Goals as goal

pub returns : goal.returns
returns c =
    all_from_yields_List segment_in_range _ _ _ c.all.ensures.ran (YieldsList-from_slice c.args.segments.now cc) (λ x b q k. search (rules, tests))
    ∙ every_listed _ _
