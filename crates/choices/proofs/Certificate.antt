-- The certificate of extras, that `extras` has it, and that with it at most one bidder stands strictly inside. Assumes nothing.
use Prim.Native.Nat.{ℕ, suc, ◌+◌, ◌-◌, ◌≤◌, ◌<◌}
use native.Mathlib.Omega.{arith}
use mathlib.Core.Bool.{Bool, true, false, cond}
use mathlib.Core.List.{List, [], ◌∷◌}
use mathlib.Core.Logic.{⊎_elim}
use mathlib.Core.Path.{◌≡◌, refl}
use borrow.Author.Tests.{ltb-true}
use lib.Dec.{ltb}
use Rattle.lists.proofs.Tests.{both_left, both_right}
use Rattle.book.specs.declared.Segment.{Segment}
use Rattle.supply.specs.Supply.{inside}
use Rattle.choices.specs.Choice.{width, cheaper, extra, extras}
use Rattle.choices.proofs.Fill.{counts, cheaper_mono}

-- what is taken is no dearer than u
abbrev pub Under : ℕ → List Segment → List ℕ → Type 0
Under u [] xs = Unit {0}
Under u (s ∷ c) [] = Unit {0}
Under u (s ∷ c) (x ∷ xs) = (0 < x → s.unit.0 ≤ u) × Under u c xs

-- what could still be taken costs at least u
abbrev pub Open : ℕ → List Segment → List ℕ → Type 0
Open u [] xs = Unit {0}
Open u (s ∷ c) [] = Unit {0}
Open u (s ∷ c) (x ∷ xs) = (x < width s → u ≤ s.unit.0) × Open u c xs

-- where a later bidder is below its end, nothing is taken before it that is dearer; where it is above its start, nothing before it
-- that is as cheap could still be taken
abbrev pub Cert : List Segment → List ℕ → Type 0
Cert [] xs = Unit {0}
Cert (s ∷ c) [] = Unit {0}
Cert (s ∷ c) (x ∷ xs) = (x < width s → Under s.unit.0 c xs) × (0 < x → Open (suc s.unit.0) c xs) × Cert c xs

extras_under : (u left : ℕ) (c : List Segment) → left ≤ cheaper u c → Under u c (extras left c)
extras_under u left [] h = tt
extras_under u left (s ∷ c) h =
    let x : ℕ = extra left s c in
    ⊎_elim (λ m. (λ k. m.0, extras_under u (left - x) c (omega (arith, cheaper_mono s.unit.0 u c m.0))))
    (λ m. (λ k. absurd (omega (arith, cheaper_mono u s.unit.0 c (omega arith))), extras_under u (left - x) c (omega arith)))
    (counts u s)

extras_open : (u left : ℕ) (c : List Segment) → cheaper u c ≤ left → Open (suc u) c (extras left c)
extras_open u left [] h = tt
extras_open u left (s ∷ c) h =
    let x : ℕ = extra left s c in
    ⊎_elim (λ m. let l = cheaper_mono s.unit.0 u c m.0 in (λ k. absurd (omega arith), extras_open u (left - x) c (omega arith)))
    (λ m. (λ k. m.0, extras_open u (left - x) c (omega (arith, cheaper_mono u s.unit.0 c (omega arith)))))
    (counts u s)

pub extras_cert : (left : ℕ) (c : List Segment) → Cert c (extras left c)
extras_cert left [] = tt
extras_cert left (s ∷ c) =
    let x : ℕ = extra left s c in
    (λ h. extras_under s.unit.0 (left - x) c (omega arith), λ h. extras_open s.unit.0 (left - x) c (omega arith), extras_cert (left - x) c)

-- how many bidders stand strictly inside the segments chosen
abbrev pub insides : List Segment → List ℕ → ℕ
insides [] xs = 0
insides (s ∷ c) [] = 0
insides (s ∷ c) (x ∷ xs) = cond (inside s (s.start.0 + x)) 1 0 + insides c xs

inside_above : (s : Segment) (x : ℕ) → inside s (s.start.0 + x) ≡ true → 0 < x
unfolding inside
inside_above s x e =
    let r = s.start.0 + x in
    omega (arith, ltb-true s.start.0 r (both_left (ltb s.start.0 r) (ltb r s.end.0) e))

inside_below : (s : Segment) (x : ℕ) → inside s (s.start.0 + x) ≡ true → x < width s
unfolding inside width
inside_below s x e =
    let r = s.start.0 + x in
    omega (arith, ltb-true r s.end.0 (both_right (ltb s.start.0 r) (ltb r s.end.0) e))

none_inside : (u : ℕ) (c : List Segment) (xs : List ℕ) → Under u c xs → Open (suc u) c xs → insides c xs ≡ 0
none_inside u [] xs a b = refl
none_inside u (s ∷ c) [] a b = refl
none_inside u (s ∷ c) (x ∷ xs) a b = go (inside s (s.start.0 + x)) refl (none_inside u c xs a.1 b.1)
  where
    go : (t : Bool) → inside s (s.start.0 + x) ≡ t → insides c xs ≡ 0 → cond t 1 0 + insides c xs ≡ 0
    go true e h = absurd (omega (arith, a.0 (inside_above s x e), b.0 (inside_below s x e)))
    go false e h = omega arith

pub one_inside : (c : List Segment) (xs : List ℕ) → Cert c xs → insides c xs ≤ 1
one_inside [] xs h = omega arith
one_inside (s ∷ c) [] h = omega arith
one_inside (s ∷ c) (x ∷ xs) h = go (inside s (s.start.0 + x)) refl (one_inside c xs h.2)
  where
    go : (t : Bool) → inside s (s.start.0 + x) ≡ t → insides c xs ≤ 1 → cond t 1 0 + insides c xs ≤ 1
    go true e l = omega (arith, none_inside s.unit.0 c xs (h.0 (inside_below s x e)) (h.1 (inside_above s x e)))
    go false e l = omega arith
