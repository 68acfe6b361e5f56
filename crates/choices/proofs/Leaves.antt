-- The search finds the best of its complete choices that fit. Assumes nothing.
use mathlib.Core.Bool.{Bool, true, false, cond, false≢true}
use mathlib.Core.List.Memᴰ
use mathlib.Core.List.Memᴰ.{head as here}
use mathlib.Core.List.Memᴰ.{tail as there}
use mathlib.Core.List.{List, [], ◌∷◌, Memᴰ as In}
use mathlib.Core.Logic.{◌⊎◌, inl, inr, ⊎_elim}
use mathlib.Core.Option.{Option}
use mathlib.Core.Path.{◌≡◌, refl, sym, ◌∙◌}
use Rattle.book.specs.declared.Segment.{Segment}
use Rattle.book.specs.declared.Order.{Order}
use Rattle.divisions.specs.Award.{Priced, pick}
use Rattle.divisions.proofs.IsBest.{IsBest, best_iff, best_pick}
use Rattle.choices.specs.Choice.{fits, filled}
use Rattle.choices.specs.Leaf.{Leaf}
use Rattle.choices.specs.Search.{each, through, leaf, search}

-- where f brings in what L has for each segment, going through the segments brings in what L has for any of them
module _ (L : Segment → Priced → Type 0) (f : Segment → Option Priced → Option Priced)
    (one : (s : Segment) (P : Priced → Type 0) (o : Option Priced) → IsBest P o → IsBest (λ d. P d ⊎ L s d) (f s o))
    (P : Priced → Type 0) (o : Option Priced) (b : IsBest P o) where
  abbrev Any : List Segment → Priced → Type 0
  Any ss d = (s : Segment) × In s ss × L s d

  each_best : (ss : List Segment) → IsBest (λ d. P d ⊎ Any ss d) (each f ss o)
  unfolding each
  each_best [] = best_iff (λ d. P d ⊎ Any [] d) P o (λ d p. inl p) (λ d. ⊎_elim (λ p. p) (λ t. absurd (Memᴰ.not-nil t.1))) b
  each_best (s ∷ ss) =
      best_iff (λ d. P d ⊎ Any (s ∷ ss) d) (λ d. (P d ⊎ Any ss d) ⊎ L s d) (f s (each f ss o)) to from
      (one s (λ d. P d ⊎ Any ss d) (each f ss o) (each_best ss))
    where
      to : (d : Priced) → (P d ⊎ Any ss d) ⊎ L s d → P d ⊎ Any (s ∷ ss) d
      to d (inl (inl p)) = inl p
      to d (inl (inr (t, m, l))) = inr (t, there m, l)
      to d (inr l) = inr (s, here refl, l)

      from : (d : Priced) → P d ⊎ Any (s ∷ ss) d → (P d ⊎ Any ss d) ⊎ L s d
      from d (inl p) = inl (inl p)
      from d (inr (t, here e, l)) = inr (rw e at l)
      from d (inr (t, there m, l)) = inl (inr (t, m, l))

leaf_best : (order : Order) (c : List Segment) (P : Priced → Type 0) (o : Option Priced) → IsBest P o
    → IsBest (λ d. P d ⊎ Leaf order [] c d) (leaf order c o)
unfolding leaf
leaf_best order c P o b = go (fits order c) refl
  where
    new : Priced
    new = filled order c

    go : (t : Bool) → fits order c ≡ t → IsBest (λ d. P d ⊎ ((fits order c ≡ true) × (d ≡ new))) (cond t (pick o new) o)
    go true e =
        best_iff (λ d. P d ⊎ ((fits order c ≡ true) × (d ≡ new))) (λ d. P d ⊎ (d ≡ new)) (pick o new)
        (λ d. ⊎_elim (λ p. inl p) (λ h. inr (e, h)))
        (λ d. ⊎_elim (λ p. inl p) (λ h. inr h.1))
        (best_pick P o new b)
    go false e =
        best_iff (λ d. P d ⊎ ((fits order c ≡ true) × (d ≡ new))) P o (λ d p. inl p)
        (λ d. ⊎_elim (λ p. p) (λ h. absurd (false≢true (sym e ∙ h.0))))
        b

pub search_best : (order : Order) (supplies : List (List Segment)) (c : List Segment) (P : Priced → Type 0) (o : Option Priced) → IsBest P o
    → IsBest (λ d. P d ⊎ Leaf order supplies c d) (search order supplies c o)
unfolding search through
search_best order [] c P o b = leaf_best order c P o b
search_best order (ss ∷ supplies) c P o b =
    each_best (λ s. Leaf order supplies (s ∷ c)) (λ s. search order supplies (s ∷ c)) (λ s. search_best order supplies (s ∷ c)) P o b ss
