-- The first number of which a test holds is the least one, and there is none exactly where every number fails. Assumes nothing.
use Prim.Native.Nat.{ℕ, zero, suc, ◌+◌, ◌≤◌, ◌<◌}
use native.Mathlib.Omega.{arith}
use mathlib.Core.Bool.{Bool, true, false, cond, false≢true}
use mathlib.Core.Option.{Option, some, none}
use mathlib.Core.Path.{◌≡◌, refl, sym, ap, ◌∙◌, subst}
use lib.Dec.{ltb}
use borrow.Author.Tests.{ltb-true, ltb-false}
use Rattle.lists.specs.Least.{first_from, Least}
use Rattle.lists.proofs.Tests.{same_or_not}

-- there is at most one least
pub one_least : (test : ℕ → Bool) (a b : ℕ) → Least test a → Least test b → a ≡ b
one_least test a b l k = same_or_not a b (λ e. e) (λ ne. absurd (go (ltb a b) refl ne))
  where
    go : (t : Bool) → ltb a b ≡ t → (a ≡ b → ⊥) → ⊥
    go true e ne = false≢true (sym (k.below a (ltb-true a b e)) ∙ l.holds)
    go false e ne = false≢true (sym (l.below b (omega (arith, ltb-false a b e, ne))) ∙ k.holds)

module _ (test : ℕ → Bool) where
  -- one of the n numbers from `from`: the test holds of it, and of none before it
  record First (from n c : ℕ) : Type 0 where
    low : from ≤ c
    high : c < from + n
    holds : test c ≡ true
    below : (k : ℕ) → from ≤ k → k < c → test k ≡ false

  -- what an answer tells
  abbrev Tells : ℕ → ℕ → Option ℕ → Type 0
  Tells from n none = (k : ℕ) → from ≤ k → k < from + n → test k ≡ false
  Tells from n (some c) = First from n c

  -- past a number that fails
  past : (n from : ℕ) → test from ≡ false → (o : Option ℕ) → Tells (from + 1) n o → Tells from (suc n) o
  past n from fails none t = λ k h l. same_or_not from k (λ e. rw e at fails) (λ ne. t k (omega (arith, ne)) (omega arith))
  past n from fails (some c) t = record {
    low = omega (arith, t.low);
    high = omega (arith, t.high);
    holds = t.holds;
    below = λ k h l. same_or_not from k (λ e. rw e at fails) (λ ne. t.below k (omega (arith, ne)) l);
  }

  first_tells : (n from : ℕ) → Tells from n (first_from test from n)
  unfolding first_from
  first_tells zero from = λ k h l. absurd (omega arith)
  first_tells (suc n) from = go (test from) refl (first_tells n (from + 1))
    where
      go : (t : Bool) → test from ≡ t → Tells (from + 1) n (first_from test (from + 1) n) → Tells from (suc n) (cond t (some from) (first_from test (from + 1) n))
      go true e later = record { low = omega arith; high = omega arith; holds = e; below = λ k h l. absurd (omega arith) }
      go false e later = past n from e (first_from test (from + 1) n) later

  module _ (n : ℕ) where
    told : (o : Option ℕ) → first_from test 0 n ≡ o → Tells 0 n o
    told o e = subst (Tells 0 n) e (first_tells n 0)

    pub found_least : (c : ℕ) → first_from test 0 n ≡ some c → Least test c
    found_least c e = let f = told (some c) e in record { holds = f.holds; below = λ k h. f.below k (omega arith) h }

    pub all_fail : first_from test 0 n ≡ none → (k : ℕ) → k < n → test k ≡ false
    all_fail e k h = told none e k (omega arith) (omega arith)

    -- and the other way round
    pub none_found : ((k : ℕ) → k < n → test k ≡ false) → first_from test 0 n ≡ none
    none_found fails = go (first_from test 0 n) (first_tells n 0)
      where
        go : (o : Option ℕ) → Tells 0 n o → o ≡ none
        go none t = refl
        go (some c) t = absurd (false≢true (sym (fails c (omega (arith, t.high))) ∙ t.holds))

    pub least_found : (c : ℕ) → c < n → Least test c → first_from test 0 n ≡ some c
    least_found c h l = go (first_from test 0 n) (first_tells n 0)
      where
        go : (o : Option ℕ) → Tells 0 n o → o ≡ some c
        go none t = absurd (false≢true (sym (t c (omega arith) (omega arith)) ∙ l.holds))
        go (some d) t = ap some (one_least test d c (record { holds = t.holds; below = λ k b. t.below k (omega arith) b }) l)
