-- The order of prices, as the tests decide it. Assumes nothing.
use Prim.Native.Nat.{ℕ, ◌<◌}
use native.Mathlib.Decide.{dec_lt}
use native.Mathlib.Omega.{arith}
use mathlib.Core.Bool.{Bool, true, false, false≢true}
use mathlib.Core.Logic.{◌⊎◌, inl, inr, ⊎_elim}
use mathlib.Core.Path.{◌≡◌, refl, sym, ap, subst}
use borrow.Author.Tests.{ltb-true, leb-true, lt-ltb, le-leb}
use lib.Dec.{T}
use lib.IntN.{ℤ, pos, negsuc}
use lib.Signed.{lt_z, le_z, ◌<ℤ◌}

pub order : (a b : ℕ) → (a < b) ⊎ ((a ≡ b) ⊎ (b < a))
order a b = go (dec_lt a b) (dec_lt b a)
  where
    go : Dec (a < b) → Dec (b < a) → (a < b) ⊎ ((a ≡ b) ⊎ (b < a))
    go (yes h) k = inl h
    go (no h) (yes k) = inr (inr k)
    go (no h) (no k) = inr (inl (omega arith))

pub less_trans : (a b c : ℤ) → lt_z a b ≡ true → lt_z b c ≡ true → lt_z a c ≡ true
less_trans (pos a) (pos b) (pos c) h k = lt-ltb a c (omega (arith, ltb-true a b h, ltb-true b c k))
less_trans (pos a) (pos b) (negsuc c) h k = absurd (false≢true k)
less_trans (pos a) (negsuc b) c h k = absurd (false≢true h)
less_trans (negsuc a) (pos b) (pos c) h k = refl
less_trans (negsuc a) (pos b) (negsuc c) h k = absurd (false≢true k)
less_trans (negsuc a) (negsuc b) (pos c) h k = refl
less_trans (negsuc a) (negsuc b) (negsuc c) h k = lt-ltb c a (omega (arith, ltb-true b a h, ltb-true c b k))

pub less_irrefl : (a : ℤ) → lt_z a a ≡ true → ⊥
less_irrefl (pos a) h = omega (arith, ltb-true a a h)
less_irrefl (negsuc a) h = omega (arith, ltb-true a a h)

pub less_or : (a b : ℤ) → (lt_z a b ≡ true) ⊎ ((a ≡ b) ⊎ (lt_z b a ≡ true))
less_or (pos a) (pos b) = ⊎_elim (λ h. inl (lt-ltb a b h)) (⊎_elim (λ h. inr (inl (ap pos h))) (λ h. inr (inr (lt-ltb b a h)))) (order a b)
less_or (pos a) (negsuc b) = inr (inr refl)
less_or (negsuc a) (pos b) = inl refl
less_or (negsuc a) (negsuc b) = ⊎_elim (λ h. inr (inr (lt-ltb a b h))) (⊎_elim (λ h. inr (inl (ap negsuc h))) (λ h. inl (lt-ltb b a h))) (order a b)

pub at_most_same : (a b : ℤ) → a ≡ b → le_z a b ≡ true
at_most_same a b e = subst (λ (z : ℤ). le_z a z ≡ true) e (same a)
  where
    same : (z : ℤ) → le_z z z ≡ true
    same (pos n) = le-leb n n (omega arith)
    same (negsuc n) = le-leb n n (omega arith)

-- at most, and so less or the same
pub at_most_cases : (a b : ℤ) → le_z a b ≡ true → (lt_z a b ≡ true) ⊎ (a ≡ b)
at_most_cases (pos a) (pos b) h = ⊎_elim (λ k. inl (lt-ltb a b k)) (⊎_elim (λ k. inr (ap pos k)) (λ k. absurd (omega (arith, leb-true a b h)))) (order a b)
at_most_cases (pos a) (negsuc b) h = absurd (false≢true h)
at_most_cases (negsuc a) (pos b) h = inl refl
at_most_cases (negsuc a) (negsuc b) h = ⊎_elim (λ k. absurd (omega (arith, leb-true b a h))) (⊎_elim (λ k. inr (ap negsuc k)) (λ k. inl (lt-ltb b a k))) (order a b)

-- as the library states the order
pub less : (a b : ℤ) → lt_z a b ≡ true → a <ℤ b
less a b e = record { lt = subst T (sym e) tt }

pub less_test : (a b : ℤ) → a <ℤ b → lt_z a b ≡ true
less_test a b h = go (lt_z a b) h.lt
  where
    go : (t : Bool) → T t → t ≡ true
    go false h = elim h [ ]
    go true h = refl
