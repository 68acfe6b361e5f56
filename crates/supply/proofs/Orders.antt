-- What an order takes, as the definition says it. Assumes nothing.
use Prim.Native.Nat.{ℕ, ◌+◌, ◌≤◌}
use native.Mathlib.Omega.{arith}
use mathlib.Core.Bool.{true}
use mathlib.Core.Path.{◌≡◌}
use borrow.Author.Tests.{le-leb}
use Rattle.book.specs.declared.Order.{Order}
use Rattle.book.specs.Rules.{within}
use Rattle.book.proofs.InRange.{within_low, within_high}
use Rattle.supply.specs.Meets.{meets}

within_when : (low high n : ℕ) → low ≤ n → n ≤ high → within low high n ≡ true
within_when low high n h k = rw (le-leb low n h, le-leb n high k)

module _ (order : Order) (n : ℕ) where
  pub meets_low : meets order n ≡ true → order.demand.0 ≤ n
  unfolding meets
  meets_low e = omega (arith, within_low _ _ n e)

  pub meets_high : meets order n ≡ true → n ≤ order.demand.0 + order.allowance.0
  unfolding meets
  meets_high e = omega (arith, within_high _ _ n e)

  pub meets_when : order.demand.0 ≤ n → n ≤ order.demand.0 + order.allowance.0 → meets order n ≡ true
  unfolding meets
  meets_when low high = within_when _ _ n (omega arith) (omega arith)
