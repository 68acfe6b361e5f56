-- The order of prices, and sums of them. Assumes nothing.
use Prim.Native.Nat.{ℕ, suc, ◌+◌, ◌-◌, ◌≤◌}
use native.Mathlib.Omega.{arith}
use mathlib.Core.Bool.{Bool, true, false, cond, false≢true}
use mathlib.Core.Path.{◌≡◌, refl, sym, ap, ap₂, ◌∙◌, subst}
use borrow.Author.Tests.{leb-true, lt-ltb, le-ltb, le-leb, ltb-true}
use lib.Dec.{T, ltb}
use lib.IntN.{ℤ, pos, negsuc, neg_ℤ, ◌+ℤ◌, +ℤ_assoc, +ℤ_comm, +ℤ-neg_ℤ_cancel}
use lib.Signed.{le_z, lt_z, ◌≤ℤ◌, ◌<ℤ◌, ≤ℤ_refl}
use Rattle.divisions.proofs.Signed.{less_test}

-- as the test decides it

test_most : (a b : ℤ) → le_z a b ≡ true → a ≤ℤ b
test_most a b e = record { le = subst T (sym e) tt }

most_test : (a b : ℤ) → a ≤ℤ b → le_z a b ≡ true
most_test a b h = go (le_z a b) h.le
  where
    go : (t : Bool) → T t → t ≡ true
    go false h = elim h [ ]
    go true h = refl

-- a at most b: what there is to add to a

above : (a b : ℤ) → le_z a b ≡ true → (n : ℕ) × (b ≡ a +ℤ pos n)
above (pos a) (pos b) h = let l = leb-true a b h in (b - a, ap pos (omega arith))
above (pos a) (negsuc b) h = absurd (false≢true h)
above (negsuc a) (pos b) h = (b + suc a, rw (le-ltb (b + suc a) (suc a) (omega arith)) (ap pos (omega arith)))
above (negsuc a) (negsuc b) h = let l = leb-true b a h in (a - b, rw (lt-ltb (a - b) (suc a) (omega arith)) (ap negsuc (omega arith)))

more : (a : ℤ) (n : ℕ) → le_z a (a +ℤ pos n) ≡ true
more (pos a) n = le-leb a (a + n) (omega arith)
more (negsuc a) n = go (ltb n (suc a)) refl
  where
    go : (t : Bool) → ltb n (suc a) ≡ t → le_z (negsuc a) (cond t (negsuc (suc a - suc n)) (pos (n - suc a))) ≡ true
    go true e = le-leb (suc a - suc n) a (omega arith)
    go false e = refl

most_above : (a b : ℤ) → a ≤ℤ b → (n : ℕ) × (b ≡ a +ℤ pos n)
most_above a b h = above a b (most_test a b h)

above_most : (a b : ℤ) (n : ℕ) → b ≡ a +ℤ pos n → a ≤ℤ b
above_most a b n e = rw e (test_most a (a +ℤ pos n) (more a n))

-- the same, less, and one after the other

pub same_most : (a b : ℤ) → a ≡ b → a ≤ℤ b
same_most a b e = rw e (≤ℤ_refl b)

pub less_most : (a b : ℤ) → a <ℤ b → a ≤ℤ b
less_most a b h = test_most a b (go a b (less_test a b h))
  where
    go : (a b : ℤ) → lt_z a b ≡ true → le_z a b ≡ true
    go (pos a) (pos b) e = le-leb a b (omega (arith, ltb-true a b e))
    go (pos a) (negsuc b) e = absurd (false≢true e)
    go (negsuc a) (pos b) e = refl
    go (negsuc a) (negsuc b) e = le-leb b a (omega (arith, ltb-true b a e))

pub most_trans : (a b c : ℤ) → a ≤ℤ b → b ≤ℤ c → a ≤ℤ c
most_trans a b c h k =
    let (m, d) = most_above a b h in
    let (n, e) = most_above b c k in
    above_most a c (m + n) (e ∙ ap (λ (z : ℤ). z +ℤ pos n) d ∙ +ℤ_assoc a (pos m) (pos n))

-- sums

-- of four, the inner two changed round
exchange : (a b c d : ℤ) → (a +ℤ b) +ℤ (c +ℤ d) ≡ (a +ℤ c) +ℤ (b +ℤ d)
exchange a b c d =
    +ℤ_assoc a b (c +ℤ d)
    ∙ ap (λ (z : ℤ). a +ℤ z) (sym (+ℤ_assoc b c d) ∙ ap (λ (z : ℤ). z +ℤ d) (+ℤ_comm b c) ∙ +ℤ_assoc c b d)
    ∙ sym (+ℤ_assoc a c (b +ℤ d))

pub most_sum : (a b c d : ℤ) → a ≤ℤ b → c ≤ℤ d → (a +ℤ c) ≤ℤ (b +ℤ d)
most_sum a b c d h k =
    let (m, p) = most_above a b h in
    let (n, q) = most_above c d k in
    above_most (a +ℤ c) (b +ℤ d) (m + n) (ap₂ ◌+ℤ◌ p q ∙ exchange a (pos m) c (pos n))

pub most_cancel : (a b c : ℤ) → (a +ℤ c) ≤ℤ (b +ℤ c) → a ≤ℤ b
most_cancel a b c h =
    let l = most_sum (a +ℤ c) (b +ℤ c) (neg_ℤ c) (neg_ℤ c) h (≤ℤ_refl (neg_ℤ c)) in
    rw (+ℤ-neg_ℤ_cancel a c, +ℤ-neg_ℤ_cancel b c) at l

-- from 0 on

pub pos_most : (m n : ℕ) → m ≤ n → pos m ≤ℤ pos n
pos_most m n h = test_most (pos m) (pos n) (le-leb m n h)

pub most_pos : (m n : ℕ) → pos m ≤ℤ pos n → m ≤ n
most_pos m n h = leb-true m n (most_test (pos m) (pos n) h)
