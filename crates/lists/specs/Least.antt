-- The least number of which a test holds.
use Rattle.std.specs.Prelude.{ℕ, zero, suc, ◌+◌, ◌<◌, Bool, true, false, cond, ◌≡◌}
use Rattle.std.proofs.Math.Option.{Option, some, none}

-- the first of the n numbers from `from` of which the test holds, tried one after the other
unfoldable pub first_from : (ℕ → Bool) → ℕ → ℕ → Option ℕ
first_from test from zero = none
first_from test from (suc n) = cond (test from) (some from) (first_from test (from + 1) n)

-- the test holds of n, and of no lower number
pub record Least (test : ℕ → Bool) (n : ℕ) : Type 0 where
  pub holds : test n ≡ true
  pub below : (k : ℕ) → k < n → test k ≡ false
