-- In the award at most one bidder stands strictly inside one of its segments. Assumes nothing.
use Prim.Native.Nat.{◌≤◌}
use native.Mathlib.Omega.{arith}
use mathlib.Core.List.{List, []}
use mathlib.Core.Option.{some}
use mathlib.Core.Path.{◌≡◌, ap, ◌∙◌, subst}
use Rattle.lists.specs.All.{All}
use Rattle.book.specs.declared.Segment.{Segment}
use Rattle.book.specs.declared.Order.{Order}
use Rattle.supply.proofs.Sound.{SoundSupply}
use Rattle.divisions.specs.Award.{Priced, award_of}
use Rattle.divisions.specs.IsAward.{inside_count}
use Rattle.divisions.proofs.IsBest.{IsBest}
use Rattle.choices.specs.Leaf.{Leaf}
use Rattle.choices.proofs.Chosen.{chosen_inside}
use Rattle.choices.proofs.Divides.{divides}
use Rattle.choices.proofs.Finds.{found_best, finds}

pub at_most_one_inside : (order : Order) (supplies : List (List Segment)) → All SoundSupply supplies → (award : Priced)
    → award_of order supplies ≡ some award → inside_count supplies award.quantities ≤ 1
at_most_one_inside order supplies sound award e =
    let found = (subst (IsBest (Leaf order supplies [])) (finds order supplies sound ∙ e) (found_best order supplies)).0 in
    let p = divides order supplies [] award sound tt found in
    let same = ap (λ (d : Priced). inside_count supplies d.quantities) p.is in
    omega (arith, same, chosen_inside supplies p.later p.later_shares sound p.chosen, p.few)
