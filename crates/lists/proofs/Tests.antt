-- What the code's tests, `&&` and `||` tell. Assumes nothing.
use Prim.Native.Nat.{ℕ}
use mathlib.Core.Bool.{Bool, true, false, not, ◌&&◌, ◌||◌, false≢true}
use mathlib.Core.Logic.{◌⊎◌, inl, inr}
use mathlib.Core.Path.{◌≡◌, refl, sym, ◌∙◌}
use borrow.Author.Tests.{not-true, not-false, eqb-true, eqb-false}
use lib.Dec.{eqb}

-- a call's answer r is the test t; the code went on, or turned away, by `!r`
pub passed : {r t : Bool} → r ≡ t → not r ≡ false → t ≡ true
passed {r} e h = sym e ∙ not-false r h

pub failed : {r t : Bool} → r ≡ t → not r ≡ true → t ≡ false
failed {r} e h = sym e ∙ not-true r h

pub both_left : (a b : Bool) → a && b ≡ true → a ≡ true
both_left true b e = refl
both_left false b e = e

pub both_right : (a b : Bool) → a && b ≡ true → b ≡ true
both_right true b e = e
both_right false b e = absurd (false≢true e)

pub both_hold : (a b : Bool) → a ≡ true → b ≡ true → a && b ≡ true
both_hold a b e f = rw (e, f)

pub one_holds : (a b : Bool) → a || b ≡ true → (a ≡ true) ⊎ (b ≡ true)
one_holds true b e = inl refl
one_holds false b e = inr e

pub left_holds : (a b : Bool) → a ≡ true → a || b ≡ true
left_holds a b e = rw e

pub right_holds : (a b : Bool) → b ≡ true → a || b ≡ true
right_holds true b e = refl
right_holds false b e = e

pub neither_left : (a b : Bool) → a || b ≡ false → a ≡ false
neither_left false b e = refl
neither_left true b e = e

pub neither_right : (a b : Bool) → a || b ≡ false → b ≡ false
neither_right false b e = e
neither_right true b e = absurd (false≢true (sym e))

-- by cases of whether two numbers are the same
pub same_or_not : {P : Type 0} (a b : ℕ) → (a ≡ b → P) → ((a ≡ b → ⊥) → P) → P
same_or_not {P} a b same different = go (eqb a b) refl
  where
    go : (t : Bool) → eqb a b ≡ t → P
    go true e = same (eqb-true a b e)
    go false e = different (eqb-false a b e)
