-- The best of a set of divisions, and of a list. Assumes nothing.
use mathlib.Core.Bool.{Bool, true, false, cond, false≢true}
use mathlib.Core.List.Memᴰ
use mathlib.Core.List.Memᴰ.{head as here}
use mathlib.Core.List.Memᴰ.{tail as there}
use mathlib.Core.List.{List, [], ◌∷◌, Memᴰ as In}
use mathlib.Core.Logic.{◌⊎◌, inl, inr, ⊎_elim}
use mathlib.Core.Option.{Option, some, none}
use mathlib.Core.Path.{◌≡◌, refl, sym, ap, ◌∙◌}
use Rattle.divisions.specs.Award.{Priced, better, pick, best_of}
use Rattle.divisions.proofs.Order.{better_trans, better_irrefl, better_or}

-- the best of those that have P, or none where none has it
abbrev pub IsBest : (Priced → Type 0) → Option Priced → Type 0
IsBest P none = (d : Priced) → P d → ⊥
IsBest P (some best) = P best × ((d : Priced) → P d → (d ≡ best) ⊎ (better best d ≡ true))

-- the same, or worse
abbrev pub NotBetter : Priced → Priced → Type 0
NotBetter d best = (d ≡ best) ⊎ (better best d ≡ true)

-- a smaller set will do, if it has one at least as good for each of the larger
pub best_of_lem : (P Q : Priced → Type 0) (o : Option Priced) → ((d : Priced) → Q d → P d)
    → ((d : Priced) → P d → (e : Priced) × Q e × ((d ≡ e) ⊎ (better e d ≡ true))) → IsBest Q o → IsBest P o
best_of_lem P Q none f g b = λ d p. b (g d p).0 (g d p).1
best_of_lem P Q (some best) f g b = (f best b.0, λ d p. go d (g d p).0 (g d p).2 (b.1 (g d p).0 (g d p).1))
  where
    go : (d e : Priced) → NotBetter d e → NotBetter e best → NotBetter d best
    go d e (inl h) (inl k) = inl (h ∙ k)
    go d e (inl h) (inr k) = inr (rw h k)
    go d e (inr h) (inl k) = inr (rw k at h)
    go d e (inr h) (inr k) = inr (better_trans best e d k h)

pub best_iff : (P Q : Priced → Type 0) (o : Option Priced) → ((d : Priced) → Q d → P d) → ((d : Priced) → P d → Q d) → IsBest Q o → IsBest P o
best_iff P Q o f g b = best_of_lem P Q o f (λ d p. (d, g d p, inl refl)) b

pub best_unique : (P : Priced → Type 0) (o o' : Option Priced) → IsBest P o → IsBest P o' → o ≡ o'
best_unique P none none a b = refl
best_unique P none (some d) a b = absurd (a d b.0)
best_unique P (some d) none a b = absurd (b d a.0)
best_unique P (some d) (some e) a b = go (a.1 e b.0) (b.1 d a.0)
  where
    go : NotBetter e d → NotBetter d e → some d ≡ some e
    go (inl h) k = ap some (sym h)
    go (inr h) (inl k) = ap some k
    go (inr h) (inr k) = absurd (better_irrefl d (better_trans d e d h k))

-- the better of the best so far and x is the best of all so far and x
pub best_pick : (P : Priced → Type 0) (o : Option Priced) (x : Priced) → IsBest P o → IsBest (λ d. P d ⊎ (d ≡ x)) (pick o x)
unfolding pick
best_pick P none x b = (inr refl, λ d. ⊎_elim (λ p. absurd (b d p)) (λ e. inl e))
best_pick P (some best) x b = go (better x best) refl (better_or best x)
  where
    go : (t : Bool) → better x best ≡ t → (better best x ≡ true) ⊎ ((best ≡ x) ⊎ (better x best ≡ true))
        → IsBest (λ d. P d ⊎ (d ≡ x)) (some (cond t x best))
    go true h c = (inr refl, λ d. ⊎_elim (λ p. inr (⊎_elim (λ e. rw e h) (λ k. better_trans x best d h k) (b.1 d p))) (λ e. inl e))
    go false h (inl k) = (inl b.0, λ d. ⊎_elim (λ p. b.1 d p) (λ e. inr (rw e k)))
    go false h (inr (inl k)) = (inl b.0, λ d. ⊎_elim (λ p. b.1 d p) (λ e. inl (e ∙ sym k)))
    go false h (inr (inr k)) = absurd (false≢true (sym h ∙ k))

-- and so the best of a list is the best of its members
pub best_listed : (ds : List Priced) → IsBest (λ d. In d ds) (best_of ds)
unfolding best_of
best_listed [] = λ d h. Memᴰ.not-nil h
best_listed (x ∷ ds) = best_iff (λ d. In d (x ∷ ds)) (λ d. In d ds ⊎ (d ≡ x)) (pick (best_of ds) x) to from (best_pick (λ d. In d ds) (best_of ds) x (best_listed ds))
  where
    to : (d : Priced) → In d ds ⊎ (d ≡ x) → In d (x ∷ ds)
    to d (inl h) = there h
    to d (inr e) = here e

    from : (d : Priced) → In d (x ∷ ds) → In d ds ⊎ (d ≡ x)
    from d (here e) = inr e
    from d (there h) = inl h
