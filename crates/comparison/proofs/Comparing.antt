-- Quantities compared by the order of slices, from the first on, as `gives_more` compares them. Assumes nothing.
use Rattle.std.proofs.Common.{◌≡◌, refl, Bool, List, Some, arith}
use Rattle.std.proofs.lemmas.Bool.Decides.{nat_tests}
use Rattle.std.proofs.lemmas.Cmp.{same_from_slice_cmp_tested}
use Rattle.std.specs.Cmp.Lexicographic.{slice_partial_cmp}
use Rattle.std.specs.Ordering.{nat_cmp, is_gt, is_some_and}
use Rattle.money.specs.declared.Blanks.{Blanks}
use Rattle.divisions.specs.Award.{gives_more}
use Rattle.comparison.specs.Records.{blanks_in}

pub more_by_order : (a b : List Blanks) (r : Bool) → r ≡ is_some_and is_gt (slice_partial_cmp (λ (x y : Blanks). Some (nat_cmp x.0 y.0)) a b)
    → r ≡ gives_more (blanks_in a) (blanks_in b)
unfolding gives_more
more_by_order =
    same_from_slice_cmp_tested (λ (x y : Blanks). nat_cmp x.0 y.0) is_gt (λ a b. gives_more (blanks_in a) (blanks_in b)) refl (λ _ _. refl) (λ _ _. refl)
    (λ x y a b o e. grind (arith, nat_tests))
