-- A list whose elements are changed one after the other, along a loop. Assumes nothing.
use Prim.Native.Nat.{ℕ, ◌+◌, ◌<◌}
use native.Mathlib.Numerals.{add-one}
use mathlib.Core.List.{List, [], ◌∷◌, ◌++◌, map, map-append}
use mathlib.Core.Path.{◌≡◌, sym, ap, ◌∙◌}
use lib.ListN.{length, get_or, set, take}
use lib.Seq.{take-suc, take-suc-set}

-- a turn stores what f gives for the element at i
pub mapped_next : {A : Type 0} (f : A → A) (xs ys : List A) (i : ℕ) (d : A) → i < length xs → i < length ys → take i ys ≡ map f (take i xs)
    → take (i + 1) (set ys i (f (get_or xs i d))) ≡ map f (take (i + 1) xs)
mapped_next {A} f xs ys i d h k e =
    let x = get_or xs i d in
    rw add-one
    (take-suc-set ys i (f x) k
    ∙ ap (λ (zs : List A). zs ++ f x ∷ []) e
    ∙ sym (map-append f (take i xs) (x ∷ []))
    ∙ ap (map f) (sym (take-suc xs i d h)))
