-- Where a part of the search has nothing better, the search through it leaves the best so far as it is; and the search may start from any
-- division that a complete choice gives. Assumes nothing.
use mathlib.Core.Bool.{Bool, true, false, cond}
use mathlib.Core.List.{List, []}
use mathlib.Core.Logic.{◌⊎◌, inl, inr, ⊎_elim}
use mathlib.Core.Option.{Option, some, none}
use mathlib.Core.Path.{◌≡◌, refl, ap, ◌∙◌}
use Rattle.book.specs.declared.Segment.{Segment}
use Rattle.book.specs.declared.Order.{Order}
use Rattle.divisions.specs.Award.{Priced, better, pick}
use Rattle.divisions.proofs.IsBest.{NotBetter, best_iff, best_unique}
use Rattle.choices.specs.Choice.{fits, filled}
use Rattle.choices.specs.Leaf.{Leaf, Started}
use Rattle.choices.specs.Search.{leaf, search, searched}
use Rattle.choices.proofs.Leaves.{search_best}
use Rattle.choices.proofs.Finds.{found_best}

module _ (order : Order) (supplies : List (List Segment)) (c : List Segment) where
  pub none_better : (best : Priced) → ((d : Priced) → Leaf order supplies c d → NotBetter d best) → search order supplies c (some best) ≡ some best
  none_better best h =
      best_unique (λ d. (d ≡ best) ⊎ Leaf order supplies c d) (search order supplies c (some best)) (some best)
      (search_best order supplies c (λ d. d ≡ best) (some best) (refl, λ d e. inl e))
      (inl refl, λ d. ⊎_elim (λ e. inl e) (λ l. h d l))

  pub none_there : (o : Option Priced) → ((d : Priced) → Leaf order supplies c d → ⊥) → search order supplies c o ≡ o
  none_there (some best) h = none_better best (λ d l. absurd (h d l))
  none_there none h =
      best_unique (λ d. ⊥ ⊎ Leaf order supplies c d) (search order supplies c none) none
      (search_best order supplies c (λ d. ⊥) none (λ d e. e))
      (λ d. ⊎_elim (λ e. e) (λ l. h d l))

module _ (order : Order) (supplies : List (List Segment)) where
  pub from_started : (o : Option Priced) → Started order supplies o → search order supplies [] o ≡ searched order supplies
  from_started o (inl e) = ap (search order supplies []) e
  from_started o (inr (d, e, l)) =
      ap (search order supplies []) e
      ∙ best_unique (Leaf order supplies []) (search order supplies [] (some d)) (searched order supplies)
      (best_iff (Leaf order supplies []) (λ x. (x ≡ d) ⊎ Leaf order supplies [] x) (search order supplies [] (some d))
      (λ x. ⊎_elim (λ p. rw p l) (λ m. m))
      (λ x m. inr m)
      (search_best order supplies [] (λ x. x ≡ d) (some d) (refl, λ x p. inl p)))
      (found_best order supplies)

  -- also after one more complete choice of the book
  pub started_leaf : (c : List Segment) (o : Option Priced) → ((d : Priced) → Leaf order [] c d → Leaf order supplies [] d)
      → Started order supplies o → Started order supplies (leaf order c o)
  unfolding leaf pick
  started_leaf c o reached s = go (fits order c) refl
    where
      new : Priced
      new = filled order c

      either : (t : Bool) (b : Priced) → Leaf order supplies [] new → Leaf order supplies [] b → Started order supplies (some (cond t new b))
      either true b n l = inr (new, refl, n)
      either false b n l = inr (b, refl, l)

      picked : (o : Option Priced) → Leaf order supplies [] new → Started order supplies o → Started order supplies (pick o new)
      picked o n (inl e) = rw e (inr (new, refl, n))
      picked o n (inr (d, e, l)) = rw e (either (better new d) d n l)

      go : (t : Bool) → fits order c ≡ t → Started order supplies (cond t (pick o new) o)
      go true e = picked o (reached new (e, refl)) s
      go false e = s
