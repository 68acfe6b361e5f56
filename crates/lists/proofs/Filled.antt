-- An array filled with one entry after the other. Assumes nothing.
use Prim.Native.Nat.{ℕ, ◌+◌}
use mathlib.Core.Bool.{Bool, true, false, cond}
use mathlib.Core.List.{List, [], ◌∷◌, ◌++◌, map, foldl, append_assoc, append-nil}
use mathlib.Core.Path.{◌≡◌, refl, sym, ap, ◌∙◌}
use borrow.Author.Tests.{ltb-true, ltb-false}
use lib.Dec.{ltb}
use lib.ListN.{length, set, length-append}
use Rattle.lists.specs.Padded.{padded, added}
use Rattle.lists.proofs.Padded.{padded_next, padded_full}

pub added_padded : {A : Type 0} (n : ℕ) (zero-entry : A) (xs : List A) (x : A) → added n (padded n zero-entry xs) (length xs) x ≡ padded n zero-entry (xs ++ x ∷ [])
added_padded n zero-entry xs x = go (ltb (length xs) n) refl
  where
    go : (b : Bool) → ltb (length xs) n ≡ b → cond b (set (padded n zero-entry xs) (length xs) x) (padded n zero-entry xs) ≡ padded n zero-entry (xs ++ x ∷ [])
    go true q = padded_next n zero-entry xs x (ltb-true (length xs) n q)
    go false q = sym (padded_full n zero-entry xs x (ltb-false (length xs) n q))

pub one_more : {A : Type 0} (xs : List A) (x : A) → length xs + 1 ≡ length (xs ++ x ∷ [])
one_more xs x = sym (length-append xs (x ∷ []))

pub map_more : {A B : Type 0} (f : A → B) (xs : List A) (x : A) → map f xs ++ f x ∷ [] ≡ map f (xs ++ x ∷ [])
map_more f [] x = refl
map_more f (y ∷ xs) x = ap (λ zs. f y ∷ zs) (map_more f xs x)

-- Where the record of a list of entries, with one entry more, is the record of the list with this entry, the record of none is filled
-- to that of a list.
pub filled : {A R : Type 0} (add : R → A → R) (keep : List A → R) → ((xs : List A) (x : A) → add (keep xs) x ≡ keep (xs ++ x ∷ []))
    → (xs ys : List A)
    → foldl add (keep ys) xs ≡ keep (ys ++ xs)
filled add keep one [] ys = ap keep (sym (append-nil ys))
filled add keep one (x ∷ xs) ys =
    ap (λ r. foldl add r xs) (one ys x) ∙ filled add keep one xs (ys ++ x ∷ []) ∙ ap keep (append_assoc ys (x ∷ []) xs)
