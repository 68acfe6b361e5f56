-- The laws of a form between two words. Assumes nothing.
use Prim.Native.Nat.{ℕ}
use mathlib.Core.List.{List, ◌++◌, append_assoc}
use mathlib.Core.Path.{refl}
use Rattle.forms.specs.Form.{Form}
use Rattle.forms.specs.Word.{word}
use Rattle.forms.specs.Combined.{sequence, framed}
use Rattle.forms.proofs.Form.{Laws, Next, any}
use Rattle.forms.proofs.Word.{word_laws}
use Rattle.forms.proofs.Sequence.{sequence_laws}
use Rattle.forms.proofs.Via.{Same, via_laws}

-- the word may stand after a text of p
abbrev pub Closes : {A : Type 0} → Form A → List ℕ → Type 0
Closes p close = (r : List ℕ) → Next p.Follow (close ++ r)

module _ {A : Type 0} {p : Form A} (start : List ℕ) (P : Laws p) (close : List ℕ) where
  abbrev parts : Form (Unit {0} × (A × Unit {0}))
  parts = sequence (word start) (sequence p (word close))

  same_framed : Same parts (λ x. x.1.0) (λ a. (tt, (a, tt))) p.Valid (framed start p close).text
  same_framed = record {
    to_valid = λ a v. (tt, (v, tt));
    back = λ a v. refl;
    from_valid = λ x v. v.1.0;
    same_text = λ x v. append_assoc start (p.text x.1.0) close;
  }

  pub framed_laws : Closes p close → Laws (framed start p close)
  framed_laws closes =
      via_laws
      (sequence_laws (word_laws start) (sequence_laws P (word_laws close) (λ b r v h. closes r))
      (λ b r v h. any (p.text b.0 ++ close ++ r)))
      same_framed
