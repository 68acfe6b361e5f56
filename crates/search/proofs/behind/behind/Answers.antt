-- The first of the ends, as many as the choice has, are its ends in order.
use Rattle.std.proofs.Common.{◌∙◌}
use Rattle.lists.proofs.Slices.{map_take}
use Rattle.search.proofs.behind.behind.Goals as goal

pub returns : goal.returns
returns c = c.gives_more.ensures ∙ rw (map_take, map_take, c.ends-high.ensures)
