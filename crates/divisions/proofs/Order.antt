-- The order of divisions: `better` is strict and total. Assumes nothing.
use Prim.Native.Nat.{ℕ, zero, suc, ◌<◌}
use native.Mathlib.Omega.{arith}
use mathlib.Core.Bool.{true, ◌&&◌, false≢true}
use mathlib.Core.List.{List, [], ◌∷◌}
use mathlib.Core.Logic.{◌⊎◌, inl, inr, ⊎_elim}
use mathlib.Core.Path.{◌≡◌, refl, sym, ap₂, ◌∙◌}
use borrow.Author.Tests.{ltb-true, eqb-true, lt-ltb, eq-eqb}
use lib.Dec.{eqb, ltb}
use lib.ListN.{length, take, get_or}
use lib.Signed.{lt_z, le_z}
use Rattle.lists.proofs.Tests.{both_left, both_right, both_hold, one_holds, left_holds, right_holds}
use Rattle.divisions.specs.Award.{Priced, gives_more, wins_tie, better}
use Rattle.divisions.specs.IsAward.{GivesLess}
use Rattle.divisions.proofs.Signed.{order, less_trans, less_irrefl, less_or, at_most_same, at_most_cases}

-- ---- more to the first bidder at whom two differ

abbrev pub More : List ℕ → List ℕ → Type 0
More xs ys = gives_more xs ys ≡ true

pub more_here : (x y : ℕ) (xs ys : List ℕ) → y < x → More (x ∷ xs) (y ∷ ys)
unfolding gives_more
more_here x y xs ys h = left_holds (ltb y x) _ (lt-ltb y x h)

pub more_later : (x y : ℕ) (xs ys : List ℕ) → x ≡ y → More xs ys → More (x ∷ xs) (y ∷ ys)
unfolding gives_more
more_later x y xs ys e h = right_holds (ltb y x) _ (both_hold (eqb x y) (gives_more xs ys) (eq-eqb x y e) h)

pub more_cases : (x y : ℕ) (xs ys : List ℕ) → More (x ∷ xs) (y ∷ ys) → (y < x) ⊎ ((x ≡ y) × More xs ys)
unfolding gives_more
more_cases x y xs ys h =
    ⊎_elim
    (λ k. inl (ltb-true y x k))
    (λ k. inr (eqb-true x y (both_left (eqb x y) (gives_more xs ys) k), both_right (eqb x y) (gives_more xs ys) k))
    (one_holds (ltb y x) (eqb x y && gives_more xs ys) h)

more_trans : (xs ys zs : List ℕ) → More xs ys → More ys zs → More xs zs
unfolding gives_more
more_trans [] ys zs h k = absurd (false≢true h)
more_trans (x ∷ xs) [] zs h k = absurd (false≢true k)
more_trans (x ∷ xs) (y ∷ ys) [] h k = refl
more_trans (x ∷ xs) (y ∷ ys) (z ∷ zs) h k = go (more_cases x y xs ys h) (more_cases y z ys zs k) (λ p q. more_trans xs ys zs p q)
  where
    go : (y < x) ⊎ ((x ≡ y) × More xs ys) → (z < y) ⊎ ((y ≡ z) × More ys zs) → (More xs ys → More ys zs → More xs zs) → More (x ∷ xs) (z ∷ zs)
    go (inl p) (inl q) rest = more_here x z xs zs (omega arith)
    go (inl p) (inr q) rest = more_here x z xs zs (omega arith)
    go (inr p) (inl q) rest = more_here x z xs zs (omega arith)
    go (inr p) (inr q) rest = more_later x z xs zs (p.0 ∙ q.0) (rest p.1 q.1)

more_irrefl : (xs : List ℕ) → More xs xs → ⊥
unfolding gives_more
more_irrefl [] h = false≢true h
more_irrefl (x ∷ xs) h = ⊎_elim (λ k. omega arith) (λ k. more_irrefl xs k.1) (more_cases x x xs xs h)

more_or : (xs ys : List ℕ) → More xs ys ⊎ ((xs ≡ ys) ⊎ More ys xs)
unfolding gives_more
more_or [] [] = inr (inl refl)
more_or [] (y ∷ ys) = inr (inr refl)
more_or (x ∷ xs) [] = inl refl
more_or (x ∷ xs) (y ∷ ys) = go (order x y) (more_or xs ys)
  where
    go : (x < y) ⊎ ((x ≡ y) ⊎ (y < x)) → More xs ys ⊎ ((xs ≡ ys) ⊎ More ys xs)
        → More (x ∷ xs) (y ∷ ys) ⊎ ((x ∷ xs ≡ y ∷ ys) ⊎ More (y ∷ ys) (x ∷ xs))
    go (inl h) rest = inr (inr (more_here y x ys xs h))
    go (inr (inr h)) rest = inl (more_here x y xs ys h)
    go (inr (inl h)) (inl k) = inl (more_later x y xs ys h k)
    go (inr (inl h)) (inr (inl k)) = inr (inl (ap₂ ◌∷◌ h k))
    go (inr (inl h)) (inr (inr k)) = inr (inr (more_later y x ys xs (sym h) k))

-- in the words of demand 3, where there is a quantity for each bidder in both
pub gives_less : (xs rs : List ℕ) → length rs ≡ length xs → More xs rs → GivesLess rs xs
unfolding gives_more
gives_less [] rs e h = absurd (false≢true h)
gives_less (x ∷ xs) [] e h = absurd (omega arith)
gives_less (x ∷ xs) (r ∷ rs) e h = go (more_cases x r xs rs h) (λ k. gives_less xs rs (omega arith) k)
  where
    go : (r < x) ⊎ ((x ≡ r) × More xs rs) → (More xs rs → GivesLess rs xs) → GivesLess (r ∷ rs) (x ∷ xs)
    go (inl k) rest = record { bidder = 0; same_before = refl; less = k }
    go (inr k) rest =
        let later = rest k.1 in
        record { bidder = suc later.bidder; same_before = ap₂ ◌∷◌ (sym k.0) later.same_before; less = later.less }

-- and back
more_at : (xs rs : List ℕ) (i : ℕ) → length rs ≡ length xs → take i rs ≡ take i xs → get_or rs i 0 < get_or xs i 0 → More xs rs
more_at [] [] i e s h = absurd (omega arith)
more_at [] (r ∷ rs) i e s h = absurd (omega arith)
more_at (x ∷ xs) [] i e s h = absurd (omega arith)
more_at (x ∷ xs) (r ∷ rs) zero e s h = more_here x r xs rs h
more_at (x ∷ xs) (r ∷ rs) (suc i) e s h =
    let same : x ≡ r = cc in
    let rest : take i rs ≡ take i xs = cc in
    more_later x r xs rs same (more_at xs rs i (omega arith) rest h)

pub gives_more_lem : (xs rs : List ℕ) → length rs ≡ length xs → GivesLess rs xs → More xs rs
gives_more_lem xs rs e l = more_at xs rs l.bidder e l.same_before l.less

-- ---- of two that cost the same

-- fewer blanks, or as many and more to the first bidder at whom the two differ
abbrev pub Wins : Priced → Priced → Type 0
Wins a b = (a.blanks < b.blanks) ⊎ ((a.blanks ≡ b.blanks) × More a.quantities b.quantities)

module _ (a b : Priced) where
  pub tie_when : Wins a b → wins_tie a b ≡ true
  unfolding wins_tie
  tie_when (inl h) = left_holds _ _ (lt-ltb a.blanks b.blanks h)
  tie_when (inr (e, h)) = right_holds (ltb a.blanks b.blanks) _ (both_hold (eqb a.blanks b.blanks) _ (eq-eqb a.blanks b.blanks e) h)

  pub tie_cases : wins_tie a b ≡ true → Wins a b
  unfolding wins_tie
  tie_cases h =
      let same = eqb a.blanks b.blanks in
      let more = gives_more a.quantities b.quantities in
      ⊎_elim
      (λ k. inl (ltb-true a.blanks b.blanks k))
      (λ k. inr (eqb-true a.blanks b.blanks (both_left same more k), both_right same more k))
      (one_holds (ltb a.blanks b.blanks) (same && more) h)

wins_trans : (a b c : Priced) → Wins a b → Wins b c → Wins a c
wins_trans a b c (inl p) (inl q) = inl (omega arith)
wins_trans a b c (inl p) (inr q) = inl (omega (arith, q.0))
wins_trans a b c (inr p) (inl q) = inl (omega (arith, p.0))
wins_trans a b c (inr p) (inr q) = inr (p.0 ∙ q.0, more_trans a.quantities b.quantities c.quantities p.1 q.1)

wins_irrefl : (a : Priced) → Wins a a → ⊥
wins_irrefl a (inl p) = omega arith
wins_irrefl a (inr p) = more_irrefl a.quantities p.1

-- one wins, or they agree in blanks and quantities
wins_or : (a b : Priced) → Wins a b ⊎ (((a.blanks ≡ b.blanks) × (a.quantities ≡ b.quantities)) ⊎ Wins b a)
wins_or a b = go (order a.blanks b.blanks) (more_or a.quantities b.quantities)
  where
    go : (a.blanks < b.blanks) ⊎ ((a.blanks ≡ b.blanks) ⊎ (b.blanks < a.blanks))
        → More a.quantities b.quantities ⊎ ((a.quantities ≡ b.quantities) ⊎ More b.quantities a.quantities)
        → Wins a b ⊎ (((a.blanks ≡ b.blanks) × (a.quantities ≡ b.quantities)) ⊎ Wins b a)
    go (inl h) rest = inl (inl h)
    go (inr (inr h)) rest = inr (inr (inl h))
    go (inr (inl h)) (inl k) = inl (inr (h, k))
    go (inr (inl h)) (inr (inl k)) = inr (inl (h, k))
    go (inr (inl h)) (inr (inr k)) = inr (inr (inr (sym h, k)))

-- ---- better

module _ (a b : Priced) where
  pub better_cost : lt_z a.cost b.cost ≡ true → better a b ≡ true
  unfolding better
  better_cost h = left_holds _ _ h

  pub better_tie : a.cost ≡ b.cost → Wins a b → better a b ≡ true
  unfolding better
  better_tie e h =
      let less = lt_z a.cost b.cost in
      let most = le_z a.cost b.cost in
      right_holds less (most && wins_tie a b) (both_hold most (wins_tie a b) (at_most_same a.cost b.cost e) (tie_when a b h))

  pub better_cases : better a b ≡ true → (lt_z a.cost b.cost ≡ true) ⊎ ((a.cost ≡ b.cost) × Wins a b)
  unfolding better
  better_cases h =
      let less = lt_z a.cost b.cost in
      let most = le_z a.cost b.cost in
      let wins = wins_tie a b in
      ⊎_elim
      (λ k. inl k)
      (λ k. ⊎_elim (λ l. inl l) (λ l. inr (l, tie_cases a b (both_right most wins k))) (at_most_cases a.cost b.cost (both_left most wins k)))
      (one_holds less (most && wins) h)

pub better_trans : (a b c : Priced) → better a b ≡ true → better b c ≡ true → better a c ≡ true
better_trans a b c h k = go (better_cases a b h) (better_cases b c k)
  where
    go : (lt_z a.cost b.cost ≡ true) ⊎ ((a.cost ≡ b.cost) × Wins a b)
        → (lt_z b.cost c.cost ≡ true) ⊎ ((b.cost ≡ c.cost) × Wins b c) → better a c ≡ true
    go (inl p) (inl q) = better_cost a c (less_trans a.cost b.cost c.cost p q)
    go (inl p) (inr q) = better_cost a c (rw q.0 at p)
    go (inr p) (inl q) = better_cost a c (rw p.0 q)
    go (inr p) (inr q) = better_tie a c (p.0 ∙ q.0) (wins_trans a b c p.1 q.1)

pub better_irrefl : (a : Priced) → better a a ≡ true → ⊥
better_irrefl a h = ⊎_elim (λ k. less_irrefl a.cost k) (λ k. wins_irrefl a k.1) (better_cases a a h)

pub better_or : (a b : Priced) → (better a b ≡ true) ⊎ ((a ≡ b) ⊎ (better b a ≡ true))
better_or a b = go (less_or a.cost b.cost) (wins_or a b)
  where
    go : (lt_z a.cost b.cost ≡ true) ⊎ ((a.cost ≡ b.cost) ⊎ (lt_z b.cost a.cost ≡ true))
        → Wins a b ⊎ (((a.blanks ≡ b.blanks) × (a.quantities ≡ b.quantities)) ⊎ Wins b a)
        → (better a b ≡ true) ⊎ ((a ≡ b) ⊎ (better b a ≡ true))
    go (inl p) q = inl (better_cost a b p)
    go (inr (inr p)) q = inr (inr (better_cost b a p))
    go (inr (inl p)) (inl q) = inl (better_tie a b p q)
    go (inr (inl p)) (inr (inl q)) = inr (inl (λ i. record { cost = p i; blanks = q.0 i; quantities = q.1 i }))
    go (inr (inl p)) (inr (inr q)) = inr (inr (better_tie b a (sym p) q))
