-- The first band that reaches the quantity is found, and has its sample.
use Rattle.std.proofs.Common.{rules, tests, ◌≡◌, List, sym, ap, ◌∙◌, arith}
use Rattle.std.specs.List.{find}
use Rattle.std.specs.Option.{option_map}
use Rattle.std.proofs.lemmas.Iterator.{YieldsList-from_slice}
use Rattle.std.proofs.lemmas.Iterator.Search.{find_from_yields_List}
use lib.Dec.{leb}
use Rattle.sampling.specs.declared.Band.{Band}
use Rattle.sampling.specs.Entries.{table_entries}
use Rattle.sampling.specs.Sampling.{sample_of}
use Rattle.sampling.proofs.Scan.{sample_found, first_reaching}
use Rattle.sampling.proofs.sample_by_table.Goals as goal
use Rattle.sampling.proofs.sample_by_table.Goals.{After-find}

sampled : (c : After-find) → sample_of (table_entries c.args.table) c.args.quantity.0 ≡ sample_found (option_map (λ b. b.now) c.find.result)
unfolding sample_of
sampled c =
    let q = c.args.quantity.0 in
    let found = find_from_yields_List (λ (b : Band). leb q b.highest) _ _ c.find.result c.find.ensures.ran (YieldsList-from_slice c.listed.result.now cc) (λ x b q k. search (rules, tests)) in
    first_reaching 0 q _ (omega arith)
    ∙ ap (λ (bs : List Band). sample_found (find (λ (b : Band). leb q b.highest) bs)) (sym c.listed.ensures)
    ∙ ap sample_found (sym found)

pub returns-in-Some : goal.returns-in-Some
returns-in-Some c = let t = (goal.at.returns-in-Some c).After-find in sym (sampled t ∙ rw c.in-Some.is)

pub returns-in-None : goal.returns-in-None
returns-in-None c = let t = (goal.at.returns-in-None c).After-find in sym (sampled t ∙ rw c.in-None.is)
