-- A form as the shape of whole texts: every text has one reading, the parser's. Assumes nothing.
use Prim.Native.Nat.{ℕ, suc, ◌+◌, ◌≤◌, ◌<◌}
use native.Mathlib.Omega.{arith}
use mathlib.Core.Bool.{Bool, true, false}
use mathlib.Core.List.{List, [], ◌∷◌, ◌++◌, append_assoc, append-nil}
use mathlib.Core.Path.{◌≡◌, refl, sym, ap, ◌∙◌}
use borrow.Author.Tests.{leb-true, leb-false}
use lib.Dec.{leb}
use lib.ListN.{length, take, drop, length-append, take-append-drop}
use lib.Seq.{take-take, take-append-add, take-append_seam}
use Rattle.forms.specs.Shape.{TextOf, Begins, Longest, Reading, of_shape, not_of_shape, answer}
use Rattle.forms.specs.Form.{Parse, parsed, stopped, Form}
use Rattle.forms.proofs.Parse.{not_both, same_value, same_rest}
use Rattle.forms.proofs.Form.{Laws}

module _ {A : Type 0} {p : Form A} (P : Laws p) where
  abbrev pub Whole : List ℕ → Type 0
  Whole = Reading p.Valid p.text

  -- the text of a value is parsed to its end
  pub text_parsed : (a : A) → p.Valid a → p.parse (p.text a) ≡ parsed a []
  text_parsed a v = ap p.parse (sym (append-nil (p.text a))) ∙ P.complete a [] v tt

  pub parsed_text : (t : List ℕ) (a : A) → p.parse t ≡ parsed a [] → TextOf p.Valid p.text t a
  parsed_text t a e = let s = P.sound t a [] e in record { well_formed = s.0; is = s.1 ∙ append-nil (p.text a) }

  -- a beginning of a beginning
  shorter : (t : List ℕ) (m n : ℕ) → m ≤ n → Begins p.Valid p.text (take n t) → Begins p.Valid p.text (take m t)
  shorter t m n h b = record {
    value = b.value;
    well_formed = b.well_formed;
    more = drop m (take n t) ++ b.more;
    goes_on =
        b.goes_on
        ∙ ap (λ (s : List ℕ). s ++ b.more) (sym (take-append-drop m (take n t)) ∙ ap (λ (s : List ℕ). s ++ drop m (take n t)) (take-take m n t h))
        ∙ append_assoc (take m t) (drop m (take n t)) b.more;
  }

  -- to be the longest it is enough that one byte more is too many
  one_more : (t : List ℕ) (n : ℕ) → n ≤ length t → Begins p.Valid p.text (take n t)
      → (n < length t → Begins p.Valid p.text (take (suc n) t) → ⊥)
      → Longest p.Valid p.text t n
  one_more t n h b none = record { within = h; begins = b; longest = λ m l c. go m l c (leb m n) refl }
    where
      go : (m : ℕ) → m ≤ length t → Begins p.Valid p.text (take m t) → (x : Bool) → leb m n ≡ x → m ≤ n
      go m l c true q = leb-true m n q
      go m l c false q = let k = leb-false m n q in absurd (none (omega arith) (shorter t (suc n) m k c))

  -- where the parser stops
  module _ (t : List ℕ) (n : ℕ) (e : p.parse t ≡ stopped n) where
    pub stopped_longest : Longest p.Valid p.text t n
    stopped_longest =
        let v = P.viable t n e in
        one_more t n v.0 v.1
        (λ h b. not_both (sym (text_parsed b.value b.well_formed) ∙ ap p.parse b.goes_on ∙ P.stable t n b.more e h))

    pub stopped_none : (a : A) → TextOf p.Valid p.text t a → ⊥
    stopped_none a it = not_both (sym (text_parsed a it.well_formed) ∙ ap p.parse (sym it.is) ∙ e)

  -- where it ends before the text does
  module _ (t : List ℕ) (a : A) (c : ℕ) (r : List ℕ) (e : p.parse t ≡ parsed a (c ∷ r)) where
    whole : t ≡ p.text a ++ c ∷ r
    whole = (P.sound t a (c ∷ r) e).1

    -- another text of the shape that begins with this one and its next byte
    other : (b : Begins p.Valid p.text (take (suc (length (p.text a))) t)) → ⊥
    other b =
        let n = length (p.text a) in
        let one : suc n ≡ n + 1 = omega arith in
        let front : take (suc n) t ≡ p.text a ++ c ∷ [] =
        ap (λ (k : ℕ). take k t) one ∙ ap (take (n + 1)) whole ∙ take-append-add (p.text a) (c ∷ r) 1 in
        let joined : p.text b.value ≡ p.text a ++ c ∷ b.more =
        b.goes_on ∙ ap (λ (s : List ℕ). s ++ b.more) front ∙ append_assoc (p.text a) (c ∷ []) b.more in
        let both = sym (text_parsed b.value b.well_formed) ∙ ap p.parse joined ∙ P.ahead t a (c ∷ r) (c ∷ b.more) e refl in
        omega (arith, ap length (same_rest both))

    pub ended_longest : Longest p.Valid p.text t (length (p.text a))
    ended_longest =
        let n = length (p.text a) in
        let l : length t ≡ n + length (c ∷ r) = ap length whole ∙ length-append (p.text a) (c ∷ r) in
        one_more t n (omega arith)
        (record
        { value = a; well_formed = (P.sound t a (c ∷ r) e).0; more = []; goes_on = sym (append-nil (p.text a)) ∙ ap (λ (s : List ℕ). s ++ []) (sym (ap (take n) whole ∙ take-append_seam (p.text a) (c ∷ r))) })
        (λ h b. other b)

    pub ended_none : (b : A) → TextOf p.Valid p.text t b → ⊥
    ended_none b it = let f = sym (text_parsed b it.well_formed) ∙ ap p.parse (sym it.is) ∙ e in omega (arith, ap length (same_rest f))

  -- every text has a reading
  pub reading : (t : List ℕ) → Whole t
  reading t = go (p.parse t) refl
    where
      go : (y : Parse A) → p.parse t ≡ y → Whole t
      go (parsed a []) e = of_shape a (parsed_text t a e)
      go (parsed a (c ∷ r)) e = not_of_shape (length (p.text a)) (ended_none t a c r e) (ended_longest t a c r e)
      go (stopped n) e = not_of_shape n (stopped_none t n e) (stopped_longest t n e)

  -- a text is the text of one value
  pub one_meaning : (t : List ℕ) (a b : A) → TextOf p.Valid p.text t a → TextOf p.Valid p.text t b → a ≡ b
  one_meaning t a b x y =
      same_value (sym (text_parsed a x.well_formed) ∙ ap p.parse (sym x.is ∙ y.is) ∙ text_parsed b y.well_formed)

  -- and any two readings give the same answer
  module _ {C : Type 0} (f : A → C) (g : ℕ → C) (t : List ℕ) where
    pub answer_whole : (a : A) → TextOf p.Valid p.text t a → (x : Whole t) → answer p.Valid p.text f g x ≡ f a
    unfolding answer
    answer_whole a it (of_shape b is) = ap f (one_meaning t b a is it)
    answer_whole a it (not_of_shape n none is) = absurd (none a it)

    pub answer_stopped : (n : ℕ) → ((a : A) → TextOf p.Valid p.text t a → ⊥) → Longest p.Valid p.text t n → (x : Whole t)
        → answer p.Valid p.text f g x ≡ g n
    unfolding answer
    answer_stopped n none it (of_shape b is) = absurd (none b is)
    answer_stopped n none it (not_of_shape m no_text is) =
        let a = it.longest m is.within is.begins in
        let b = is.longest n it.within it.begins in
        let z : m ≡ n = omega arith in
        ap g z

    pub one_answer : (x y : Whole t) → answer p.Valid p.text f g x ≡ answer p.Valid p.text f g y
    unfolding answer
    one_answer x (of_shape a it) = answer_whole a it x
    one_answer x (not_of_shape n none it) = answer_stopped n none it x
