-- Halving finds the least number of which a test holds, where the test goes on holding. Assumes nothing.
use Prim.Native.Nat.{ℕ, zero, suc, ◌+◌, ◌-◌, ◌/◌, ◌^◌, ◌≤◌, ◌<◌}
use native.Mathlib.Omega.{arith}
use mathlib.Core.Bool.{Bool, true, false, false≢true}
use mathlib.Core.Path.{◌≡◌, refl, sym, ◌∙◌}
use Rattle.lists.specs.Least.{Least}

-- once the test holds it goes on holding, up to `most`
abbrev pub Rises : (ℕ → Bool) → ℕ → Type 0
Rises test most = (a b : ℕ) → a ≤ b → b ≤ most → test a ≡ true → test b ≡ true

-- what halving keeps: the test holds of `high`, at most `most`, and of no number below `low`; so many more tests are enough
pub record Between (test : ℕ → Bool) (most tests low high : ℕ) : Type 0 where
  pub ordered : low ≤ high
  pub top : high ≤ most
  pub holds : test high ≡ true
  pub below : (k : ℕ) → k < low → test k ≡ false
  pub enough : high - low < 2 ^ tests

-- a number from `low` on and below `high`, in the middle
abbrev pub middle : ℕ → ℕ → ℕ
middle low high = low + (high - low) / 2

module _ (test : ℕ → Bool) (most : ℕ) where
  pub from_nothing : (tests : ℕ) → most < 2 ^ tests → test most ≡ true → Between test most tests 0 most
  from_nothing tests h e = record { ordered = omega arith; top = omega arith; holds = e; below = λ k l. absurd (omega arith); enough = omega arith }

  -- while there is more than one number left, there is a test left
  pub test_left : (tests low high : ℕ) → Between test most tests low high → low < high → 1 ≤ tests
  test_left tests low high b h = go tests b.enough
    where
      go : (n : ℕ) → high - low < 2 ^ n → 1 ≤ n
      go zero e = absurd (omega arith)
      go (suc n) e = omega arith

  pub found : (tests low high : ℕ) → Between test most tests low high → high ≤ low → Least test low
  found tests low high b h =
      let o = b.ordered in
      let same : high ≡ low = omega arith in
      record { holds = rw same at b.holds; below = b.below }

  module _ (rises : Rises test most) (tests low high : ℕ) (between : Between test most (suc tests) low high) (more : low < high) where
    -- a step down, and a step up
    pub halve_down : test (middle low high) ≡ true → Between test most tests low (middle low high)
    halve_down e = record {
      ordered = omega arith;
      top = omega (arith, between.top);
      holds = e;
      below = between.below;
      enough = omega (arith, between.enough);
    }

    pub halve_up : test (middle low high) ≡ false → Between test most tests (middle low high + 1) high
    halve_up e = record {
      ordered = omega arith;
      top = between.top;
      holds = between.holds;
      below = λ k h. fails k (omega arith);
      enough = omega (arith, between.enough);
    }
      where
        fails : (k : ℕ) → k ≤ middle low high → test k ≡ false
        fails k h = go (test k) refl
          where
            go : (t : Bool) → test k ≡ t → t ≡ false
            go false f = refl
            go true f = absurd (false≢true (sym e ∙ rises k (middle low high) h (omega (arith, between.top)) f))
