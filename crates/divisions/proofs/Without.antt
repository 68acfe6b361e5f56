-- A bidder who sells nothing: without it the others have the same award. And any bidder struck: what the others can sell, they could sell
-- beside it. Assumes nothing.
use Prim.Native.Nat.{ℕ, zero, suc, ◌+◌, ◌<◌}
use native.Mathlib.Nat.{le_of_suc-le-suc, not-suc-le-zero, zero-add}
use mathlib.Core.Bool.{true}
use mathlib.Core.List.{List, [], ◌∷◌}
use mathlib.Core.Logic.{◌⊎◌, inl, inr, ⊎_elim}
use mathlib.Core.Option.{some}
use mathlib.Core.Path.{◌≡◌, refl, sym, ap, ◌∙◌, subst}
use lib.IntN.{ℤ, pos, ◌+ℤ◌, +ℤ_idl}
use lib.ListN.{length, get_or}
use Rattle.lists.specs.All.{All}
use Rattle.lists.proofs.All.{all_any, all_map}
use Rattle.lists.proofs.Removed.{removed}
use Rattle.book.specs.declared.Segment.{Segment}
use Rattle.book.specs.declared.Order.{Order}
use Rattle.book.specs.Entries.{BidEntries}
use Rattle.supply.specs.Supply.{supply_of, supplies_of, offers, price_at}
use Rattle.supply.specs.Allocation.{bought, cost_of}
use Rattle.supply.specs.Meets.{meets}
use Rattle.supply.proofs.Supply.{nothing_offered, nothing_free}
use Rattle.divisions.specs.Division.{Allocation}
use Rattle.divisions.specs.Award.{Priced, priced, gives_more, wins_tie, better, award_of}
use Rattle.divisions.specs.NoDearer.{NoDearer}
use Rattle.divisions.proofs.AtMost.{same_most}
use Rattle.divisions.proofs.IsBest.{IsBest, best_unique}
use Rattle.divisions.proofs.Award.{PricedDivision, award_best}

-- a supply function on which nothing is offered, for nothing
pub record SellsNothing (ss : List Segment) : Type 0 where
  pub offered : offers ss 0 ≡ true
  pub free : price_at ss 0 ≡ pos 0

-- as every bid's is
pub all_sell_nothing : (bids : List BidEntries) → All SellsNothing (supplies_of bids)
all_sell_nothing bids = all_map supply_of SellsNothing bids (all_any _ (λ b. record { offered = nothing_offered b; free = nothing_free b }) bids)

-- the quantities with a bidder at index i who gets nothing
abbrev with_nothing : ℕ → List ℕ → List ℕ
with_nothing zero rs = 0 ∷ rs
with_nothing (suc i) [] = 0 ∷ []
with_nothing (suc i) (r ∷ rs) = r ∷ with_nothing i rs

-- An allocation to the others, with nothing for bidder i.

with_allocation : (i : ℕ) (supplies : List (List Segment)) (rs : List ℕ) → All SellsNothing supplies → i < length supplies
    → Allocation (removed i supplies) rs → Allocation supplies (with_nothing i rs)
with_allocation zero [] rs n h a = absurd (not-suc-le-zero h)
with_allocation zero (ss ∷ supplies) rs n h a = (n.0.offered, a)
with_allocation (suc i) [] rs n h a = absurd (not-suc-le-zero h)
with_allocation (suc i) (ss ∷ supplies) [] n h a = absurd a
with_allocation (suc i) (ss ∷ supplies) (r ∷ rs) n h a = (a.0, with_allocation i supplies rs n.1 (le_of_suc-le-suc h) a.1)

with_total : (i : ℕ) (rs : List ℕ) → bought (with_nothing i rs) ≡ bought rs
unfolding bought
with_total zero rs = zero-add (bought rs)
with_total (suc i) [] = refl
with_total (suc i) (r ∷ rs) = ap (λ (n : ℕ). r + n) (with_total i rs)

with_cost : (i : ℕ) (supplies : List (List Segment)) (rs : List ℕ) → All SellsNothing supplies → i < length supplies
    → Allocation (removed i supplies) rs → cost_of supplies (with_nothing i rs) ≡ cost_of (removed i supplies) rs
unfolding cost_of
with_cost zero [] rs n h a = absurd (not-suc-le-zero h)
with_cost zero (ss ∷ supplies) rs n h a = ap (λ (z : ℤ). z +ℤ cost_of supplies rs) n.0.free ∙ +ℤ_idl (cost_of supplies rs)
with_cost (suc i) [] rs n h a = absurd (not-suc-le-zero h)
with_cost (suc i) (ss ∷ supplies) [] n h a = absurd a
with_cost (suc i) (ss ∷ supplies) (r ∷ rs) n h a =
    ap (λ (z : ℤ). price_at ss r +ℤ z) (with_cost i supplies rs n.1 (le_of_suc-le-suc h) a.1)

with_more : (i : ℕ) (supplies : List (List Segment)) (xs ys : List ℕ) → i < length supplies → Allocation (removed i supplies) xs
    → Allocation (removed i supplies) ys → gives_more (with_nothing i xs) (with_nothing i ys) ≡ gives_more xs ys
unfolding gives_more
with_more zero supplies xs ys h a b = refl
with_more (suc i) [] xs ys h a b = absurd (not-suc-le-zero h)
with_more (suc i) (ss ∷ supplies) [] ys h a b = absurd a
with_more (suc i) (ss ∷ supplies) (x ∷ xs) [] h a b = absurd b
with_more (suc i) (ss ∷ supplies) (x ∷ xs) (y ∷ ys) h a b = rw (with_more i supplies xs ys (le_of_suc-le-suc h) a.1 b.1)

without_with : (i : ℕ) (supplies : List (List Segment)) (rs : List ℕ) → i < length supplies → Allocation (removed i supplies) rs
    → removed i (with_nothing i rs) ≡ rs
without_with zero supplies rs h a = refl
without_with (suc i) [] rs h a = absurd (not-suc-le-zero h)
without_with (suc i) (ss ∷ supplies) [] h a = absurd a
without_with (suc i) (ss ∷ supplies) (r ∷ rs) h a = ap (λ (l : List ℕ). r ∷ l) (without_with i supplies rs (le_of_suc-le-suc h) a.1)

-- An allocation in which bidder i gets nothing, without it.

without_allocation : (i : ℕ) (supplies : List (List Segment)) (rs : List ℕ) → Allocation supplies rs → Allocation (removed i supplies) (removed i rs)
without_allocation zero [] (r ∷ rs) a = elim a [ ]
without_allocation zero (ss ∷ supplies) [] a = elim a [ ]
without_allocation (suc i) [] (r ∷ rs) a = elim a [ ]
without_allocation (suc i) (ss ∷ supplies) [] a = elim a [ ]
without_allocation zero [] [] a = tt
without_allocation zero (ss ∷ supplies) (r ∷ rs) a = a.1
without_allocation (suc i) [] [] a = tt
without_allocation (suc i) (ss ∷ supplies) (r ∷ rs) a = (a.0, without_allocation i supplies rs a.1)

with_without : (i : ℕ) (supplies : List (List Segment)) (rs : List ℕ) → i < length supplies → Allocation supplies rs → get_or rs i 0 ≡ 0
    → with_nothing i (removed i rs) ≡ rs
with_without i [] rs h a e = absurd (not-suc-le-zero h)
with_without zero (ss ∷ supplies) [] h a e = elim a [ ]
with_without (suc i) (ss ∷ supplies) [] h a e = elim a [ ]
with_without zero (ss ∷ supplies) (r ∷ rs) h a e = ap (λ (n : ℕ). n ∷ rs) (sym e)
with_without (suc i) (ss ∷ supplies) (r ∷ rs) h a e = ap (λ (l : List ℕ). r ∷ l) (with_without i supplies rs (le_of_suc-le-suc h) a.1 e)

module _ (order : Order) (supplies : List (List Segment)) (nothing : All SellsNothing supplies) (i : ℕ) (bidder : i < length supplies) where
  abbrev others : List (List Segment)
  others = removed i supplies

  -- with nothing for bidder i, at the same cost
  abbrev back : Priced → Priced
  back d = record { cost = d.cost; blanks = d.blanks; quantities = with_nothing i d.quantities }

  back_division : (d : Priced) → PricedDivision order others d → PricedDivision order supplies (back d)
  back_division d p =
      let a = p.division.allocation in
      record {
        division = record {
          allocation = with_allocation i supplies d.quantities nothing bidder a;
          sum = ap (meets order) (with_total i d.quantities) ∙ p.division.sum;
        };
        cost = p.cost ∙ sym (with_cost i supplies d.quantities nothing bidder a);
        blanks = p.blanks ∙ sym (with_total i d.quantities);
      }

  -- what the others can sell without bidder i costs no less than with it
  pub no_dearer_with : NoDearer order supplies order others
  no_dearer_with rs d =
      let p = back_division (priced others rs) (record { division = d; cost = refl; blanks = refl }) in
      (with_nothing i rs, p.division, same_most (cost_of supplies (with_nothing i rs)) (cost_of others rs) (sym p.cost))

  module _ (award : Priced) (is_award : award_of order supplies ≡ some award) (sells_nothing : get_or award.quantities i 0 ≡ 0) where
    best : IsBest (PricedDivision order supplies) (some award)
    best = subst (IsBest (PricedDivision order supplies)) is_award (award_best order supplies)

    abbrev left : Priced
    left = record { cost = award.cost; blanks = award.blanks; quantities = removed i award.quantities }

    same : back left ≡ award
    same = λ j. record { cost = award.cost; blanks = award.blanks; quantities = with_without i supplies award.quantities bidder best.0.division.allocation sells_nothing j }

    left_allocation : Allocation others left.quantities
    left_allocation = without_allocation i supplies award.quantities best.0.division.allocation

    left_division : PricedDivision order others left
    left_division =
        let sold = with_without i supplies award.quantities bidder best.0.division.allocation sells_nothing in
        record {
          division = record {
            allocation = left_allocation;
            sum = ap (meets order) (sym (with_total i left.quantities) ∙ ap bought sold) ∙ best.0.division.sum;
          };
          cost = best.0.cost ∙ ap (cost_of supplies) (sym sold) ∙ with_cost i supplies left.quantities nothing bidder left_allocation;
          blanks = best.0.blanks ∙ ap bought (sym sold) ∙ with_total i left.quantities;
        }

    left_best : (d : Priced) → PricedDivision order others d → (d ≡ left) ⊎ (better left d ≡ true)
    unfolding better wins_tie
    left_best d p =
        ⊎_elim
        (λ e. inl (sym (again d p) ∙ ap forth e))
        (λ e. inr (rw (with_more i supplies left.quantities d.quantities bidder left_allocation p.division.allocation) at (subst (λ (x : Priced). better x (back d) ≡ true) (sym same) e)))
        (best.1 (back d) (back_division d p))
      where
        forth : Priced → Priced
        forth x = record { cost = x.cost; blanks = x.blanks; quantities = removed i x.quantities }

        again : (d : Priced) → PricedDivision order others d → forth (back d) ≡ d
        again d p = λ j. record { cost = d.cost; blanks = d.blanks; quantities = without_with i supplies d.quantities bidder p.division.allocation j }

    pub same_award : award_of order others ≡ some left
    same_award = best_unique (PricedDivision order others) (award_of order others) (some left) (award_best order others) (left_division, left_best)
