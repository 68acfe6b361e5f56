-- The laws of a form, and then another. Assumes nothing.
use Prim.Native.Nat.{ℕ, suc, ◌≤◌, ◌<◌}
use native.Mathlib.Omega.{arith}
use mathlib.Core.List.{List, ◌++◌, append_assoc}
use mathlib.Core.Path.{◌≡◌, refl, sym, ap, ◌∙◌, subst}
use lib.ListN.{length, take}
use Rattle.forms.specs.Shape.{Begins}
use Rattle.forms.specs.Form.{Parse, parsed, stopped, after, Form}
use Rattle.forms.specs.Combined.{then_parse, sequence}
use Rattle.forms.proofs.Parse.{not_both, same_place, after_parsed, after_stopped}
use Rattle.forms.proofs.Form.{Laws, Next, first_joined, first_kept, begins_past, begins_past_then, length_past}

-- the texts of q, and what may stand after them, may stand after a text of p
abbrev pub Follows : {A B : Type 0} → Form A → Form B → Type 0
Follows {B = B} p q = (b : B) (r : List ℕ) → q.Valid b → Next q.Follow r → Next p.Follow (q.text b ++ r)

module _ {A B : Type 0} {p : Form A} {q : Form B} (P : Laws p) (Q : Laws q) where
  abbrev S : Form (A × B)
  S = sequence p q

  -- what is parsed of a text that begins with a text of p
  past_first : (a : A) (r : List ℕ) (y : Parse B) → p.parse (p.text a ++ r) ≡ parsed a r → q.parse r ≡ y
      → S.parse (p.text a ++ r) ≡ after (length (p.text a)) (λ b. (a, b)) y
  past_first a r y e f = ap (then_parse p q) e ∙ ap (after (length (p.text a)) (λ b. (a, b))) f

  sound : (t : List ℕ) (x : A × B) (r : List ℕ) → S.parse t ≡ parsed x r → S.Valid x × (t ≡ S.text x ++ r)
  sound t x r e = go (p.parse t) refl e
    where
      go : (y : Parse A) → p.parse t ≡ y → then_parse p q y ≡ parsed x r → S.Valid x × (t ≡ S.text x ++ r)
      go (parsed a s) i f =
          let l = after_parsed (length (p.text a)) (λ b. (a, b)) (q.parse s) f in
          let from_p = P.sound t a s i in
          let from_q = Q.sound s l.0 r l.1 in
          let whole : t ≡ S.text (a, l.0) ++ r =
          from_p.1 ∙ ap (λ (z : List ℕ). p.text a ++ z) from_q.1 ∙ sym (append_assoc (p.text a) (q.text l.0) r) in
          subst (λ (z : A × B). S.Valid z × (t ≡ S.text z ++ r)) l.2 ((from_p.0, from_q.0), whole)
      go (stopped n) i f = absurd (not_both (sym f))

  module _ (follows : Follows p q) where
    complete : (x : A × B) (r : List ℕ) → S.Valid x → Next q.Follow r → S.parse (S.text x ++ r) ≡ parsed x r
    complete x r v h =
        ap S.parse (append_assoc (p.text x.0) (q.text x.1) r)
        ∙ past_first x.0 (q.text x.1 ++ r) (parsed x.1 r)
        (P.complete x.0 (q.text x.1 ++ r) v.0 (follows x.1 r v.1 h)) (Q.complete x.1 r v.1 h)

  ahead : (t : List ℕ) (x : A × B) (r s : List ℕ) → S.parse t ≡ parsed x r → take 1 s ≡ take 1 r
      → S.parse (S.text x ++ s) ≡ parsed x s
  ahead t x r s e h = go (p.parse t) refl e
    where
      go : (y : Parse A) → p.parse t ≡ y → then_parse p q y ≡ parsed x r → S.parse (S.text x ++ s) ≡ parsed x s
      go (parsed a u) i f =
          let l = after_parsed (length (p.text a)) (λ b. (a, b)) (q.parse u) f in
          let b = l.0 in
          let from_q = (Q.sound u b r l.1).1 in
          let first : take 1 (q.text b ++ s) ≡ take 1 u = first_joined (q.text b) r s h ∙ ap (take 1) (sym from_q) in
          let whole : S.parse (S.text (a, b) ++ s) ≡ parsed (a, b) s =
          ap S.parse (append_assoc (p.text a) (q.text b) s)
          ∙ past_first a (q.text b ++ s) (parsed b s) (P.ahead t a u (q.text b ++ s) i first) (Q.ahead u b r s l.1 h) in
          subst (λ (z : A × B). S.parse (S.text z ++ s) ≡ parsed z s) l.2 whole
      go (stopped n) i f = absurd (not_both (sym f))

  viable : (t : List ℕ) (n : ℕ) → S.parse t ≡ stopped n → (n ≤ length t) × Begins S.Valid S.text (take n t)
  viable t n e = go (p.parse t) refl e
    where
      go : (y : Parse A) → p.parse t ≡ y → then_parse p q y ≡ stopped n → (n ≤ length t) × Begins S.Valid S.text (take n t)
      go (parsed a u) i f =
          let m = after_stopped (length (p.text a)) (λ b. (a, b)) (q.parse u) f in
          let from_p = P.sound t a u i in
          let from_q = Q.viable u m.0 m.1 in (
            omega (arith, m.2, from_q.0, length_past t (p.text a) u from_p.1),
            record {
              value = (a, from_q.1.value);
              well_formed = (from_p.0, from_q.1.well_formed);
              more = from_q.1.more;
              goes_on =
                  ap (λ (z : List ℕ). p.text a ++ z) from_q.1.goes_on
                  ∙ sym (append_assoc (p.text a) (take m.0 u) from_q.1.more)
                  ∙ ap (λ (z : List ℕ). z ++ from_q.1.more) (sym (begins_past t (p.text a) u from_p.1 n m.0 m.2));
            },
          )
      go (stopped m) i f =
          let from_p = P.viable t n (i ∙ ap (λ (k : ℕ). stopped k) (sym (same_place f))) in (
            from_p.0,
            record {
              value = (from_p.1.value, Q.some);
              well_formed = (from_p.1.well_formed, Q.some_valid);
              more = from_p.1.more ++ q.text Q.some;
              goes_on = ap (λ (z : List ℕ). z ++ q.text Q.some) from_p.1.goes_on ∙ append_assoc (take n t) from_p.1.more (q.text Q.some);
            },
          )

  stable : (t : List ℕ) (n : ℕ) (s : List ℕ) → S.parse t ≡ stopped n → n < length t
      → S.parse (take (suc n) t ++ s) ≡ stopped n
  stable t n s e h = go (p.parse t) refl e
    where
      go : (y : Parse A) → p.parse t ≡ y → then_parse p q y ≡ stopped n → S.parse (take (suc n) t ++ s) ≡ stopped n
      go (parsed a u) i f =
          let m = after_stopped (length (p.text a)) (λ b. (a, b)) (q.parse u) f in
          let from_p = (P.sound t a u i).1 in
          let more : m.0 < length u = omega (arith, m.2, length_past t (p.text a) u from_p) in
          let rest : List ℕ = take (suc m.0) u ++ s in
          ap S.parse (begins_past_then t (p.text a) u from_p (suc n) (suc m.0) s (omega (arith, m.2)))
          ∙ past_first a rest (stopped m.0) (P.ahead t a u rest i (first_kept u s m.0 more)) (Q.stable u m.0 s m.1 more)
          ∙ ap (λ (z : ℕ). stopped z) (sym m.2)
      go (stopped m) i f = ap (then_parse p q) (P.stable t n s (i ∙ ap (λ (k : ℕ). stopped k) (sym (same_place f))) h)

  pub sequence_laws : Follows p q → Laws (sequence p q)
  sequence_laws follows = record {
    some = (P.some, Q.some);
    some_valid = (P.some_valid, Q.some_valid);
    complete = complete follows;
    sound = sound;
    ahead = ahead;
    viable = viable;
    stable = stable;
  }
