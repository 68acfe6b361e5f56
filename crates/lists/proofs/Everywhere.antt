-- A test of every element, and at each index. Assumes nothing.
use Prim.Native.Nat.{ℕ, zero, suc, ◌≤◌, ◌<◌}
use native.Mathlib.Nat.{le_of_suc-le-suc, not-suc-le-zero}
use mathlib.Core.Bool.{Bool, true, false, ◌&&◌}
use mathlib.Core.List.{List, [], ◌∷◌, map}
use mathlib.Core.Path.{◌≡◌, refl, sym, ap, ◌∙◌}
use lib.ListN.{length, get_or, take}
use lib.Seq.{get_or-take, length-take-le}
use Rattle.lists.specs.All.{All}
use Rattle.lists.specs.Every.{every}
use Rattle.lists.proofs.Tests.{both_left, both_right}

module _ {A : Type 0} (test : A → Bool) where
  -- what holds of every element holds at each index
  pub every_at : (xs : List A) (i : ℕ) (d : A) → i < length xs → every test xs ≡ true → test (get_or xs i d) ≡ true
  unfolding every
  every_at [] i d h e = absurd (not-suc-le-zero h)
  every_at (x ∷ xs) zero d h e = both_left (test x) (every test xs) e
  every_at (x ∷ xs) (suc i) d h e = every_at xs i d (le_of_suc-le-suc h) (both_right (test x) (every test xs) e)

  -- and of the first n elements at each index below n
  pub every_within : (xs : List A) (i n : ℕ) (d : A) → i < n → n ≤ length xs → every test (take n xs) ≡ true → test (get_or xs i d) ≡ true
  every_within xs i n d h k e =
      let l : i < length (take n xs) = rw (length-take-le n xs k) h in
      ap test (sym (get_or-take n xs i d h)) ∙ every_at (take n xs) i d l e

-- two tests of every element, and a test of what f gives for each
module _ {A : Type 0} where
  pub every_both : (f g : A → Bool) (xs : List A) → every (λ x. f x && g x) xs ≡ every f xs && every g xs
  unfolding every
  every_both f g [] = refl
  every_both f g (x ∷ xs) = rw (every_both f g xs) (four (f x) (g x) (every f xs) (every g xs))
    where
      four : (a b c d : Bool) → (a && b) && (c && d) ≡ (a && c) && (b && d)
      four true true c d = refl
      four true false true d = refl
      four true false false d = refl
      four false b c d = refl

  pub every_map : {B : Type 0} (test : B → Bool) (f : A → B) (xs : List A) → every test (map f xs) ≡ every (λ x. test (f x)) xs
  unfolding every
  every_map test f [] = refl
  every_map test f (x ∷ xs) = ap (λ (b : Bool). test (f x) && b) (every_map test f xs)

  pub every_all : (test : A → Bool) (xs : List A) → All (λ x. test x ≡ true) xs → every test xs ≡ true
  unfolding every
  every_all test [] a = refl
  every_all test (x ∷ xs) a = rw a.0 (every_all test xs a.1)
