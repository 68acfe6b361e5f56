-- The laws of one of two forms, told by the first byte. Assumes nothing.
use Prim.Native.Nat.{ℕ, suc, ◌+◌, ◌≤◌, ◌<◌}
use native.Mathlib.Omega.{arith}
use mathlib.Core.Bool.{Bool, true, false, cond}
use mathlib.Core.List.{List, [], ◌∷◌, ◌++◌}
use mathlib.Core.Logic.{◌⊎◌, inl, inr}
use mathlib.Core.Path.{◌≡◌, refl, sym, ap, ap₂, ◌∙◌, subst}
use borrow.Author.Tests.{eq-eqb, ne_eqb, eqb-true}
use lib.Dec.{eqb}
use lib.ListN.{length, take}
use Rattle.forms.specs.Shape.{Begins}
use Rattle.forms.specs.Form.{Parse, parsed, stopped, after, Form}
use Rattle.forms.specs.Combined.{either}
use Rattle.forms.proofs.Parse.{after_parsed, after_stopped}
use Rattle.forms.proofs.Form.{Laws, Next}

-- every text of q begins with another byte than x
abbrev pub Apart : {B : Type 0} → ℕ → Form B → Type 0
Apart {B} x q = (b : B) → q.Valid b → (c : ℕ) × (u : List ℕ) × (q.text b ≡ c ∷ u) × (c ≡ x → ⊥)

module _ {A B : Type 0} {x : ℕ} {p : Form A} {q : Form B} (P : Laws p) (Q : Laws q) (apart : Apart x q) where
  abbrev E : Form (A ⊎ B)
  E = either x p q

  abbrev left : Parse A → Parse (A ⊎ B)
  left = after 1 (λ a. inl a)

  abbrev right : Parse B → Parse (A ⊎ B)
  right = after 0 (λ b. inr b)

  left_may : (r : List ℕ) → Next E.Follow r → Next p.Follow r
  left_may [] h = tt
  left_may (b ∷ r) h = h.0

  right_may : (r : List ℕ) → Next E.Follow r → Next q.Follow r
  right_may [] h = tt
  right_may (b ∷ r) h = h.1

  -- a text of q is parsed by q
  by_right : (b : B) (r : List ℕ) → q.Valid b → E.parse (q.text b ++ r) ≡ right (q.parse (q.text b ++ r))
  by_right b r v =
      let o = apart b v in
      let e : q.text b ++ r ≡ o.0 ∷ (o.1 ++ r) = ap (λ (z : List ℕ). z ++ r) o.2 in
      ap E.parse e
      ∙ ap (λ (z : Bool). cond z (left (p.parse (o.1 ++ r))) (right (q.parse (o.0 ∷ (o.1 ++ r))))) (ne_eqb o.0 x o.3)
      ∙ ap (λ (z : List ℕ). right (q.parse z)) (sym e)

  by_left : (t : List ℕ) → E.parse (x ∷ t) ≡ left (p.parse t)
  by_left t = rw (eq-eqb x x refl)

  either_complete : (v : A ⊎ B) (r : List ℕ) → E.Valid v → Next E.Follow r → E.parse (E.text v ++ r) ≡ parsed v r
  either_complete (inl a) r v h = by_left (p.text a ++ r) ∙ ap left (P.complete a r v (left_may r h))
  either_complete (inr b) r v h = by_right b r v ∙ ap right (Q.complete b r v (right_may r h))

  right_sound : (t : List ℕ) (v : A ⊎ B) (r : List ℕ) → right (q.parse t) ≡ parsed v r → E.Valid v × (t ≡ E.text v ++ r)
  right_sound t v r e =
      let l = after_parsed 0 (λ b. inr b) (q.parse t) e in
      subst (λ (w : A ⊎ B). E.Valid w × (t ≡ E.text w ++ r)) l.2 (Q.sound t l.0 r l.1)

  either_sound : (t : List ℕ) (v : A ⊎ B) (r : List ℕ) → E.parse t ≡ parsed v r → E.Valid v × (t ≡ E.text v ++ r)
  either_sound [] v r e = right_sound [] v r e
  either_sound (b ∷ t) v r e = go (eqb b x) refl e
    where
      go : (w : Bool) → eqb b x ≡ w → cond w (left (p.parse t)) (right (q.parse (b ∷ t))) ≡ parsed v r
          → E.Valid v × (b ∷ t ≡ E.text v ++ r)
      go true i e' =
          let l = after_parsed 1 (λ a. inl a) (p.parse t) e' in
          let k = P.sound t l.0 r l.1 in
          subst (λ (w : A ⊎ B). E.Valid w × (b ∷ t ≡ E.text w ++ r)) l.2
          (k.0, ap₂ (λ (c : ℕ) (z : List ℕ). c ∷ z) (eqb-true b x i) k.1)
      go false i e' = right_sound (b ∷ t) v r e'

  right_ahead : (t : List ℕ) (v : A ⊎ B) (r s : List ℕ) → right (q.parse t) ≡ parsed v r → take 1 s ≡ take 1 r
      → E.parse (E.text v ++ s) ≡ parsed v s
  right_ahead t v r s e h =
      let l = after_parsed 0 (λ b. inr b) (q.parse t) e in
      subst (λ (w : A ⊎ B). E.parse (E.text w ++ s) ≡ parsed w s) l.2
      (by_right l.0 s (Q.sound t l.0 r l.1).0 ∙ ap right (Q.ahead t l.0 r s l.1 h))

  either_ahead : (t : List ℕ) (v : A ⊎ B) (r s : List ℕ) → E.parse t ≡ parsed v r → take 1 s ≡ take 1 r
      → E.parse (E.text v ++ s) ≡ parsed v s
  either_ahead [] v r s e h = right_ahead [] v r s e h
  either_ahead (b ∷ t) v r s e h = go (eqb b x) e
    where
      go : (w : Bool) → cond w (left (p.parse t)) (right (q.parse (b ∷ t))) ≡ parsed v r → E.parse (E.text v ++ s) ≡ parsed v s
      go true e' =
          let l = after_parsed 1 (λ a. inl a) (p.parse t) e' in
          subst (λ (w : A ⊎ B). E.parse (E.text w ++ s) ≡ parsed w s) l.2
          (by_left (p.text l.0 ++ s) ∙ ap left (P.ahead t l.0 r s l.1 h))
      go false e' = right_ahead (b ∷ t) v r s e' h

  -- a place is that of the one parsed
  right_stopped : (t : List ℕ) (n : ℕ) → right (q.parse t) ≡ stopped n → q.parse t ≡ stopped n
  right_stopped t n e =
      let m = after_stopped 0 (λ b. inr b) (q.parse t) e in
      m.1 ∙ ap (λ (k : ℕ). stopped k) (let z : m.0 ≡ n = omega (arith, m.2) in z)

  right_viable : (t : List ℕ) (n : ℕ) → right (q.parse t) ≡ stopped n → (n ≤ length t) × Begins E.Valid E.text (take n t)
  right_viable t n e =
      let from_q = Q.viable t n (right_stopped t n e) in
      (from_q.0, record { value = inr from_q.1.value; well_formed = from_q.1.well_formed; more = from_q.1.more; goes_on = from_q.1.goes_on })

  either_viable : (t : List ℕ) (n : ℕ) → E.parse t ≡ stopped n → (n ≤ length t) × Begins E.Valid E.text (take n t)
  either_viable [] n e = right_viable [] n e
  either_viable (b ∷ t) n e = go (eqb b x) refl e
    where
      go : (w : Bool) → eqb b x ≡ w → cond w (left (p.parse t)) (right (q.parse (b ∷ t))) ≡ stopped n
          → (n ≤ suc (length t)) × Begins E.Valid E.text (take n (b ∷ t))
      go true i e' =
          let m = after_stopped 1 (λ a. inl a) (p.parse t) e' in
          let from_p = P.viable t m.0 m.1 in
          let z : n ≡ suc m.0 = omega (arith, m.2) in (
            omega (arith, from_p.0),
            record {
              value = inl from_p.1.value;
              well_formed = from_p.1.well_formed;
              more = from_p.1.more;
              goes_on =
                  ap₂ (λ (c : ℕ) (u : List ℕ). c ∷ u) (sym (eqb-true b x i)) from_p.1.goes_on
                  ∙ ap (λ (j : ℕ). take j (b ∷ t) ++ from_p.1.more) (sym z);
            },
          )
      go false i e' = right_viable (b ∷ t) n e'

  either_stable : (t : List ℕ) (n : ℕ) (s : List ℕ) → E.parse t ≡ stopped n → n < length t → E.parse (take (suc n) t ++ s) ≡ stopped n
  either_stable [] n s e h = absurd (omega arith)
  either_stable (b ∷ t) n s e h = go (eqb b x) refl e
    where
      go : (w : Bool) → eqb b x ≡ w → cond w (left (p.parse t)) (right (q.parse (b ∷ t))) ≡ stopped n
          → cond (eqb b x) (left (p.parse (take n t ++ s))) (right (q.parse (b ∷ (take n t ++ s)))) ≡ stopped n
      go true i e' =
          let m = after_stopped 1 (λ a. inl a) (p.parse t) e' in
          let z : n ≡ suc m.0 = omega (arith, m.2) in
          rw (i, z, P.stable t m.0 s m.1 (omega (arith, m.2))) (ap (λ (k : ℕ). stopped k) (sym m.2 ∙ z))
      go false i e' = rw (i, Q.stable (b ∷ t) n s (right_stopped (b ∷ t) n e') h) (let z : 0 + n ≡ n = omega arith in ap (λ (k : ℕ). stopped k) z)

  pub either_laws : Laws (either x p q)
  either_laws = record {
    some = inr Q.some;
    some_valid = Q.some_valid;
    complete = either_complete;
    sound = either_sound;
    ahead = either_ahead;
    viable = either_viable;
    stable = either_stable;
  }
