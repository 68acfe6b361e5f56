-- The laws of a form of text, between the texts of its values and its parser. Assumes nothing.
use Prim.Native.Nat.{ℕ, suc, ◌+◌, ◌≤◌, ◌<◌}
use native.Mathlib.Omega.{arith}
use mathlib.Core.List.{List, [], ◌∷◌, ◌++◌, append_assoc}
use mathlib.Core.Path.{◌≡◌, refl, sym, ap, ap₂, ◌∙◌, subst}
use lib.ListN.{length, take, length-append}
use lib.Seq.{take-append-add}
use Rattle.forms.specs.Shape.{Begins}
use Rattle.forms.specs.Form.{parsed, stopped, Form}

-- The text r is at its end, or its first byte may stand there.
abbrev pub Next : (ℕ → Type 0) → List ℕ → Type 0
Next Follow [] = Unit {0}
Next Follow (b ∷ r) = Follow b

pub record Laws {A : Type 0} (p : Form A) : Type 0 where
  pub some : A
  pub some_valid : p.Valid some
  -- the text of a value is parsed as this value
  pub complete : (a : A) (r : List ℕ) → p.Valid a → Next p.Follow r → p.parse (p.text a ++ r) ≡ parsed a r
  -- what is parsed is the text of the value found
  pub sound : (t : List ℕ) (a : A) (r : List ℕ) → p.parse t ≡ parsed a r → p.Valid a × (t ≡ p.text a ++ r)
  -- of what follows, one byte is looked at
  pub ahead : (t : List ℕ) (a : A) (r s : List ℕ) → p.parse t ≡ parsed a r → take 1 s ≡ take 1 r → p.parse (p.text a ++ s) ≡ parsed a s
  -- where the parser stops, some text of the form has the bytes before
  pub viable : (t : List ℕ) (n : ℕ) → p.parse t ≡ stopped n → (n ≤ length t) × Begins p.Valid p.text (take n t)
  -- and with one byte more it stops there whatever follows
  pub stable : (t : List ℕ) (n : ℕ) (s : List ℕ) → p.parse t ≡ stopped n → n < length t → p.parse (take (suc n) t ++ s) ≡ stopped n

-- every text begins with nothing
pub begins_none : {A : Type 0} {Valid : A → Type 0} {text : A → List ℕ} (a : A) → Valid a → (t : List ℕ) (n : ℕ) → n ≡ 0
    → (n ≤ length t) × Begins Valid text (take n t)
begins_none {text = text} a v t n e =
    (omega arith, record { value = a; well_formed = v; more = text a; goes_on = ap (λ (k : ℕ). take k t ++ text a) (sym e) })

pub any : (r : List ℕ) → Next (λ b. Unit {0}) r
any [] = tt
any (b ∷ r) = tt

-- the first byte of two texts put together
pub first_joined : (u r s : List ℕ) → take 1 s ≡ take 1 r → take 1 (u ++ s) ≡ take 1 (u ++ r)
first_joined [] r s e = e
first_joined (b ∷ u) r s e = refl

pub first_kept : (s v : List ℕ) (m : ℕ) → m < length s → take 1 (take (suc m) s ++ v) ≡ take 1 s
first_kept [] v m h = absurd (omega arith)
first_kept (b ∷ s) v m h = refl

-- what may stand next is said of the next byte alone
pub next_same : (Follow : ℕ → Type 0) (r s : List ℕ) → take 1 s ≡ take 1 r → Next Follow r → Next Follow s
next_same Follow r [] e h = tt
next_same Follow [] (c ∷ s) e h = absurd (omega (arith, ap length e))
next_same Follow (b ∷ r) (c ∷ s) e h = let z : b ≡ c = cc in subst Follow z h

-- a beginning that goes past the first part of a text
module _ (t u r : List ℕ) (whole : t ≡ u ++ r) where
  pub begins_past : (n m : ℕ) → n ≡ length u + m → take n t ≡ u ++ take m r
  begins_past n m e = ap₂ (λ (k : ℕ) (z : List ℕ). take k z) e whole ∙ take-append-add u r m

  pub begins_past_then : (n m : ℕ) (s : List ℕ) → n ≡ length u + m → take n t ++ s ≡ u ++ (take m r ++ s)
  begins_past_then n m s e = ap (λ (z : List ℕ). z ++ s) (begins_past n m e) ∙ append_assoc u (take m r) s

  pub length_past : length t ≡ length u + length r
  length_past = ap length whole ∙ length-append u r
