-- What the tests of digits tell. Assumes nothing.
use Prim.Native.Nat.{ℕ, ◌≤◌, ◌<◌}
use mathlib.Core.Bool.{Bool, true, false, ◌&&◌}
use mathlib.Core.Path.{◌≡◌, refl}
use borrow.Author.Tests.{le-leb, lt-ltb, leb-true, ltb-true}
use lib.Dec.{leb, ltb}
use Rattle.lists.proofs.Tests.{both_left, both_right}
use Rattle.forms.specs.Tests.{is_digit, goes_on, NoDigit}

pub record Goes (v b : ℕ) : Type 0 where
  pub some : 0 < v
  pub few : v < 1000000000000
  pub low : 48 ≤ b
  pub high : b ≤ 57

pub goes : (v b : ℕ) → goes_on v b ≡ true → Goes v b
goes v b e =
    let tail = both_right (ltb 0 v) (ltb v 1000000000000 && is_digit b) e in
    let d = both_right (ltb v 1000000000000) (is_digit b) tail in
    record {
      some = ltb-true 0 v (both_left (ltb 0 v) (ltb v 1000000000000 && is_digit b) e);
      few = ltb-true v 1000000000000 (both_left (ltb v 1000000000000) (is_digit b) tail);
      low = leb-true 48 b (both_left (leb 48 b) (leb b 57) d);
      high = leb-true b 57 (both_right (leb 48 b) (leb b 57) d);
    }

pub may_go : (v b : ℕ) → 0 < v → v < 1000000000000 → 48 ≤ b → b ≤ 57 → goes_on v b ≡ true
may_go v b z m l h = rw (lt-ltb 0 v z, lt-ltb v 1000000000000 m, le-leb _ _ l, le-leb _ _ h)

pub none_after : (v b : ℕ) → NoDigit b → goes_on v b ≡ false
none_after v b n = go (goes_on v b) refl
  where
    go : (x : Bool) → goes_on v b ≡ x → goes_on v b ≡ false
    go true q = let g = goes v b q in absurd (n g.low g.high)
    go false q = q
