-- A test of every element, as the library's chains say it. Assumes nothing.
use mathlib.Core.Bool.{Bool, ◌&&◌}
use mathlib.Core.List.{List, [], ◌∷◌}
use mathlib.Core.Path.{◌≡◌, refl, ap}
use Rattle.std.specs.List.{list_all}
use Rattle.lists.specs.Every.{every}

pub every_listed : {A : Type 0} (test : A → Bool) (xs : List A) → list_all test xs ≡ every test xs
unfolding every
every_listed test [] = refl
every_listed test (x ∷ xs) = ap (λ (b : Bool). test x && b) (every_listed test xs)
