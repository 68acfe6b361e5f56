-- The laws of one or more items. Assumes nothing.
use Prim.Native.Nat.{ℕ}
use native.Mathlib.Omega.{arith}
use mathlib.Core.List.{List, [], ◌∷◌, ◌++◌}
use mathlib.Core.Path.{◌≡◌, refl, ap}
use Rattle.lists.specs.Joined.{joined}
use Rattle.forms.specs.Form.{Form}
use Rattle.forms.specs.Combined.{sequence}
use Rattle.forms.specs.Many.{many, OneOrMore, one_or_more}
use Rattle.forms.proofs.Form.{Laws}
use Rattle.forms.proofs.Sequence.{sequence_laws}
use Rattle.forms.proofs.Via.{Same, via_laws}
use Rattle.forms.proofs.Many.{FirstByte, first_may, many_laws}

module _ {A : Type 0} (x : ℕ) (p : Form A) (P : Laws p) (heads : FirstByte x p) where
  abbrev split : List A → A × List A
  split [] = (P.some, [])
  split (a ∷ xs) = (a, xs)

  split_valid : (xs : List A) → OneOrMore x p xs → (sequence p (many x p)).Valid (split xs)
  split_valid [] v = absurd (omega (arith, v.0))
  split_valid (a ∷ xs) v = v.1

  split_back : (xs : List A) → OneOrMore x p xs → (split xs).0 ∷ (split xs).1 ≡ xs
  split_back [] v = absurd (omega (arith, v.0))
  split_back (a ∷ xs) v = refl

  same_items : Same (sequence p (many x p)) (λ y. y.0 ∷ y.1) split (OneOrMore x p) (joined p.text)
  same_items = record { to_valid = split_valid; back = split_back; from_valid = λ y v. (omega arith, v); same_text = λ y v. refl }

  pub one_or_more_laws : p.Follow x → Laws (one_or_more x p)
  one_or_more_laws again =
      via_laws (sequence_laws P (many_laws x p P heads again) (λ xs r v h. first_may x p P heads xs r v again h)) same_items

  -- the first item begins the text
  pub one_or_more_headed : FirstByte x (one_or_more x p)
  one_or_more_headed [] v = absurd (omega (arith, v.0))
  one_or_more_headed (a ∷ xs) v = let h = heads a v.1.0 in (h.0 ++ joined p.text xs, ap (λ (s : List ℕ). s ++ joined p.text xs) h.1)
