-- The members of lists that are put together from others. Assumes nothing.
use Prim.Native.Nat.{ℕ, zero, suc, ◌<◌}
use native.Mathlib.Nat.{le_of_suc-le-suc, not-suc-le-zero}
use mathlib.Core.Bool.{Bool, true, false}
use mathlib.Core.List.Memᴰ
use mathlib.Core.List.Memᴰ.{head as here}
use mathlib.Core.List.Memᴰ.{tail as there}
use mathlib.Core.List.{List, [], ◌∷◌, map, Memᴰ as In}
use mathlib.Core.Logic.{⊎_elim}
use mathlib.Core.Path.{◌≡◌, refl, ap, subst}
use lib.ListN.{length, get_or}
use Rattle.lists.specs.All.{All}
use Rattle.lists.specs.Those.{those}
use Rattle.lists.specs.Joined.{joined}

-- of what f gives for each
module _ {A B : Type 0} (f : A → B) where
  pub in_map : (xs : List A) (x : A) → In x xs → In (f x) (map f xs)
  in_map [] x h = absurd (Memᴰ.not-nil h)
  in_map (y ∷ xs) x (here e) = here (ap f e)
  in_map (y ∷ xs) x (there h) = there (in_map xs x h)

  pub map_in : (xs : List A) (y : B) → In y (map f xs) → (x : A) × In x xs × (y ≡ f x)
  map_in [] y h = absurd (Memᴰ.not-nil h)
  map_in (x ∷ xs) y (here e) = (x, here refl, e)
  map_in (x ∷ xs) y (there h) = let (z, m, e) = map_in xs y h in (z, there m, e)

-- of the lists of every element
module _ {A B : Type 0} (f : A → List B) where
  pub in_joined : (xs : List A) (x : A) (y : B) → In x xs → In y (f x) → In y (joined f xs)
  in_joined [] x y h m = absurd (Memᴰ.not-nil h)
  in_joined (z ∷ xs) x y (here e) m = Memᴰ.append_left (joined f xs) (subst (λ (w : A). In y (f w)) e m)
  in_joined (z ∷ xs) x y (there h) m = Memᴰ.append_right (f z) (in_joined xs x y h m)

  pub joined_in : (xs : List A) (y : B) → In y (joined f xs) → (x : A) × In x xs × In y (f x)
  joined_in [] y h = absurd (Memᴰ.not-nil h)
  joined_in (x ∷ xs) y h = ⊎_elim (λ m. (x, here refl, m)) (λ m. let (z, n, k) = joined_in xs y m in (z, there n, k)) (Memᴰ.append_cases (f x) h)

-- of those of which a test holds
module _ {A : Type 0} (test : A → Bool) where
  pub in_those : (xs : List A) (x : A) → In x xs → test x ≡ true → In x (those test xs)
  unfolding those
  in_those [] x h e = absurd (Memᴰ.not-nil h)
  in_those (y ∷ xs) x (here p) e = rw (subst (λ (z : A). test z ≡ true) p e) (here p)
  in_those (y ∷ xs) x (there h) e = go (test y) refl (in_those xs x h e)
    where
      go : (b : Bool) → test y ≡ b → In x (those test xs) → In x (those test (y ∷ xs))
      go true p m = rw p (there m)
      go false p m = rw p m

  pub those_in : (xs : List A) (x : A) → In x (those test xs) → In x xs × (test x ≡ true)
  unfolding those
  those_in [] x h = absurd (Memᴰ.not-nil h)
  those_in (y ∷ xs) x h = go (test y) refl (λ m. those_in xs x m)
    where
      later : In x xs × (test x ≡ true) → In x (y ∷ xs) × (test x ≡ true)
      later (m, t) = (there m, t)

      first : test y ≡ true → (In x (those test xs) → In x xs × (test x ≡ true)) → In x (y ∷ those test xs) → In x (y ∷ xs) × (test x ≡ true)
      first p rest (here e) = (here e, rw e p)
      first p rest (there m) = later (rest m)

      go : (b : Bool) → test y ≡ b → (In x (those test xs) → In x xs × (test x ≡ true)) → In x (y ∷ xs) × (test x ≡ true)
      go true p rest = first p rest (rw p at h)
      go false p rest = later (rest (rw p at h))

-- the element at an index is a member
pub in_at : {A : Type 0} (d : A) (xs : List A) (i : ℕ) → i < length xs → In (get_or xs i d) xs
in_at d [] i h = absurd (not-suc-le-zero h)
in_at d (x ∷ xs) zero h = here refl
in_at d (x ∷ xs) (suc i) h = there (in_at d xs i (le_of_suc-le-suc h))

-- what holds of every element holds of each member
pub all_in : {A : Type 0} (P : A → Type 0) (xs : List A) (x : A) → All P xs → In x xs → P x
all_in P [] x p h = absurd (Memᴰ.not-nil h)
all_in P (y ∷ xs) x p (here e) = rw e p.0
all_in P (y ∷ xs) x p (there h) = all_in P xs x p.1 h
