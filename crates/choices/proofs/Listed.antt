-- The search goes through the list of all choices, from the last to the first. Assumes nothing.
use mathlib.Core.List.{List, [], ◌∷◌, ◌++◌}
use mathlib.Core.Option.{Option}
use mathlib.Core.Path.{◌≡◌, refl, sym, ap, ◌∙◌}
use Rattle.lists.specs.Joined.{joined}
use Rattle.book.specs.declared.Segment.{Segment}
use Rattle.book.specs.declared.Order.{Order}
use Rattle.divisions.specs.Award.{Priced}
use Rattle.choices.specs.Listed.{choices_from, all_choices}
use Rattle.choices.specs.Search.{each, through, leaf, search}

module _ {A B : Type 0} (f : A → B → B) where
  each_append : (xs ys : List A) (o : B) → each f (xs ++ ys) o ≡ each f xs (each f ys o)
  unfolding each
  each_append [] ys o = refl
  each_append (x ∷ xs) ys o = ap (f x) (each_append xs ys o)

  -- one after the other, or all that they stand for
  each_joined : {X : Type 0} (g : X → List A) (h : X → B → B) → ((x : X) (o : B) → h x o ≡ each f (g x) o) → (xs : List X) (o : B)
      → each h xs o ≡ each f (joined g xs) o
  unfolding each
  each_joined g h same [] o = refl
  each_joined g h same (x ∷ xs) o =
      same x _ ∙ ap (each f (g x)) (each_joined g h same xs o) ∙ sym (each_append (g x) (joined g xs) o)

-- whatever is done at each, it is done at each of the list
pub through_listed : {B : Type 0} (f : List Segment → B → B) (supplies : List (List Segment)) (c : List Segment) (o : B)
    → through f supplies c o ≡ each f (choices_from supplies c) o
unfolding each through
through_listed f [] c o = refl
through_listed f (ss ∷ supplies) c o =
    each_joined f (λ (s : Segment). choices_from supplies (s ∷ c)) (λ s. through f supplies (s ∷ c))
    (λ s q. through_listed f supplies (s ∷ c) q) ss o

pub search_listed : (order : Order) (supplies : List (List Segment)) (best : Option Priced)
    → search order supplies [] best ≡ each (leaf order) (all_choices supplies) best
unfolding search
search_listed order supplies best = through_listed (leaf order) supplies [] best
