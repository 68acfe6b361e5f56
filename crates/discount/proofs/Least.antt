-- What is at most two numbers is at most the smaller, and the smaller of two amounts. Assumes nothing.
use Prim.Native.Nat.{ℕ, min}
use native.Mathlib.Omega.{arith}
use mathlib.Core.Bool.{Bool, true, false, ◌&&◌}
use mathlib.Core.Path.{◌≡◌, refl, sym}
use borrow.Author.Tests.{leb-true, le-leb}
use lib.Dec.{leb}
use Rattle.std.specs.Ordering.{nat_cmp, ord_min}
use Rattle.std.proofs.lemmas.Grind.{common_steps}
use Rattle.std.proofs.lemmas.Bool.Decides.{nat_tests}
use Rattle.money.specs.declared.CentsPerBlank.{CentsPerBlank}
use Rattle.lists.proofs.Tests.{both_left, both_right, both_hold}

-- two tests that hold together are the same
pub together : (a b : Bool) → (a ≡ true → b ≡ true) → (b ≡ true → a ≡ true) → a ≡ b
together true b f g = sym (f refl)
together false true f g = g refl
together false false f g = refl

pub at_most_both : (c a b : ℕ) → leb c a && leb c b ≡ leb c (min a b)
at_most_both c a b =
    together (leb c a && leb c b) (leb c (min a b))
    (λ e.
    let below = leb-true c a (both_left (leb c a) (leb c b) e) in
    let under = leb-true c b (both_right (leb c a) (leb c b) e) in
    le-leb c (min a b) (omega arith))
    (λ e.
    let l = leb-true c (min a b) e in
    both_hold (leb c a) (leb c b) (le-leb c a (omega arith)) (le-leb c b (omega arith)))

-- the smaller of two amounts, by their order
pub smaller : (a b : CentsPerBlank) → (ord_min (λ x y. nat_cmp x.0 y.0) a b).0 ≡ min a.0 b.0
smaller a b = grind (arith, common_steps, nat_tests)
