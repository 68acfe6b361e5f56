-- The laws of numbers with one space between two of them. Assumes nothing.
use Prim.Native.Nat.{ℕ, zero, suc, ◌<◌}
use native.Mathlib.Omega.{arith}
use mathlib.Core.List.{List, ◌++◌}
use mathlib.Core.Path.{◌≡◌, refl, ap₂}
use lib.ListN.{set}
use lib.Seq.{get_or-set_other}
use Rattle.forms.specs.Bytes.{ascii}
use Rattle.forms.specs.Digits.{digits}
use Rattle.forms.specs.Form.{Form}
use Rattle.forms.specs.Tests.{NoDigit}
use Rattle.forms.specs.Word.{word}
use Rattle.forms.specs.Number.{number}
use Rattle.forms.specs.Combined.{sequence}
use Rattle.forms.specs.Spaced.{spaced, Numbers, numbers, numbers_in}
use Rattle.forms.proofs.Form.{Laws, any}
use Rattle.forms.proofs.Word.{word_laws}
use Rattle.forms.proofs.Number.{number_laws}
use Rattle.forms.proofs.Sequence.{sequence_laws}
use Rattle.forms.proofs.Via.{Same, via_laws}

module _ {A : Type 0} {p : Form A} (P : Laws p) where
  abbrev parts : Form ((A × Unit {0}) × ℕ)
  parts = sequence (sequence p (word (ascii " "))) (number 0)

  same_spaced : Same parts (λ x. (x.0.0, x.1)) (λ y. ((y.0, tt), y.1)) (spaced p).Valid (spaced p).text
  same_spaced = record {
    to_valid = λ y v. ((v.0, tt), v.1);
    back = λ y v. refl;
    from_valid = λ x v. (v.0.0, v.1);
    same_text = λ x v. refl;
  }

  spaced_laws : p.Follow 32 → Laws (spaced p)
  spaced_laws may =
      via_laws (sequence_laws (sequence_laws P (word_laws (ascii " ")) (λ b r v h. may)) (number_laws 0 (omega arith)) (λ b r v h. any (digits b ++ r))) same_spaced

-- anything but a digit may follow
pub numbers_end : (n b : ℕ) → NoDigit b → (numbers n).Follow b
numbers_end zero b h = h
numbers_end (suc n) b h = h

pub numbers_laws : (n : ℕ) → Laws (numbers n)
numbers_laws zero = number_laws 0 (omega arith)
numbers_laws (suc n) = spaced_laws (numbers_laws n) (numbers_end n 32 (λ l k. omega arith))

pub numbers_kept : (n k v : ℕ) (xs : List ℕ) → n < k → numbers_in n (set xs k v) ≡ numbers_in n xs
numbers_kept zero k v xs h = get_or-set_other xs k 0 v 0 (omega arith)
numbers_kept (suc n) k v xs h =
    ap₂ (λ (x : Numbers n) (y : ℕ). (x, y)) (numbers_kept n k v xs (omega arith)) (get_or-set_other xs k (suc n) v 0 (omega arith))
