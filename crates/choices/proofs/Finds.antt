-- The search finds the award. Assumes nothing.
use Prim.Native.Nat.{ℕ, ◌+◌}
use native.Mathlib.Omega.{arith}
use mathlib.Core.Bool.{true}
use mathlib.Core.List.{List, []}
use mathlib.Core.Logic.{◌⊎◌, inr, ⊎_elim}
use mathlib.Core.Option.{none}
use mathlib.Core.Path.{◌≡◌, sym, ap, ◌∙◌, subst}
use lib.IntN.{pos}
use Rattle.lists.specs.All.{All}
use Rattle.book.specs.declared.Segment.{Segment}
use Rattle.book.specs.declared.Order.{Order}
use Rattle.supply.specs.Allocation.{bought, cost_of}
use Rattle.supply.specs.Meets.{meets}
use Rattle.supply.proofs.Orders.{meets_low, meets_high, meets_when}
use Rattle.supply.proofs.Sound.{SoundSupply}
use Rattle.divisions.specs.Award.{Priced, award_of}
use Rattle.divisions.proofs.IsBest.{IsBest, NotBetter, best_of_lem, best_iff, best_unique}
use Rattle.divisions.proofs.Award.{PricedDivision, award_best}
use Rattle.choices.specs.Choice.{placed}
use Rattle.choices.specs.Leaf.{Leaf}
use Rattle.choices.specs.Search.{searched}
use Rattle.choices.proofs.Fill.{cost}
use Rattle.choices.proofs.Leaves.{search_best}
use Rattle.choices.specs.Chosen.{Chosen}
use Rattle.choices.proofs.Chosen.{chosen_allocation, chosen_cost, allocation_chosen}
use Rattle.choices.proofs.Divides.{together, divides, as_good}

-- the best of all complete choices that fit
pub found_best : (order : Order) (supplies : List (List Segment)) → IsBest (Leaf order supplies []) (searched order supplies)
found_best order supplies =
    best_iff (Leaf order supplies []) (λ d. ⊥ ⊎ Leaf order supplies [] d) (searched order supplies)
    (λ d. ⊎_elim (λ h. absurd h) (λ l. l))
    (λ d l. inr l)
    (search_best order supplies [] (λ d. ⊥) none (λ d h. h))

module _ (order : Order) (supplies : List (List Segment)) (sound : All SoundSupply supplies) where
  chosen_priced : (e : List Segment) (ys : List ℕ) → Chosen supplies e ys → pos (0 + cost e ys) ≡ cost_of supplies (placed e ys)
  chosen_priced e ys a =
      let sum : 0 + cost e ys ≡ cost e ys = omega arith in
      ap pos sum ∙ sym (chosen_cost supplies e ys sound a)

  found_division : (d : Priced) → Leaf order supplies [] d → PricedDivision order supplies d
  unfolding bought
  found_division d l =
      let p = divides order supplies [] d sound tt l in
      let e = p.later in
      let ys = p.later_shares in
      subst (PricedDivision order supplies) (sym p.is) (record {
        division = record { allocation = chosen_allocation supplies e ys sound p.chosen; sum = meets_when order _ (omega (arith, p.enough)) (omega (arith, p.not_over)) };
        cost = chosen_priced e ys p.chosen;
        blanks = omega arith;
      })

  division_found : (d : Priced) → PricedDivision order supplies d → (t : Priced) × Leaf order supplies [] t × NotBetter d t
  unfolding bought
  division_found d p =
      let (e, ys, a, q) = allocation_chosen supplies d.quantities p.division.allocation in
      let sum : meets order (bought (placed e ys)) ≡ true = subst (λ (rs : List ℕ). meets order (bought rs) ≡ true) q p.division.sum in
      let low = meets_low order (bought (placed e ys)) sum in
      let high = meets_high order (bought (placed e ys)) sum in
      let price : pos (0 + cost e ys) ≡ d.cost = chosen_priced e ys a ∙ ap (cost_of supplies) (sym q) ∙ sym p.cost in
      let blanks : 0 + bought (placed e ys) ≡ d.blanks = omega (arith, ap bought q, p.blanks) in
      let same : together [] [] e ys ≡ d = λ i. record { cost = price i; blanks = blanks i; quantities = sym q i } in
      let (t, l, n) = as_good order supplies [] [] e ys sound tt tt a (omega arith) (omega arith) in
      (t, l, subst (λ (x : Priced). NotBetter x t) same n)

  pub finds : searched order supplies ≡ award_of order supplies
  finds =
      best_unique (PricedDivision order supplies) (searched order supplies) (award_of order supplies)
      (best_of_lem (PricedDivision order supplies) (Leaf order supplies []) (searched order supplies) found_division division_found (found_best order supplies))
      (award_best order supplies)
