-- Laws of forms at places of a text. Assumes nothing.
use Prim.Native.Nat.{ℕ, ◌+◌, ◌-◌}
use native.Mathlib.Omega.{arith}
use mathlib.Core.Bool.{Bool, true, false, true≢false}
use mathlib.Core.List.{List, [], ◌∷◌}
use mathlib.Core.Logic.{inl, inr}
use mathlib.Core.Path.{◌≡◌, refl, sym, ap, ◌∙◌}
use lib.ListN.{length, drop, length-drop, length-append}
use lib.Seq.{drop-drop}
use Rattle.forms.specs.Form.{stopped, after, Form}
use Rattle.forms.specs.Tests.{starts_with}
use Rattle.forms.specs.Combined.{then_parse, sequence, via, either}
use Rattle.forms.specs.Place.{Found, Stops, Gives}
use Rattle.forms.proofs.Form.{Laws}

module _ {A : Type 0} {p : Form A} (P : Laws p) (t : List ℕ) where
  pub wide : {i e : ℕ} {a : A} → Found p t i a e → e ≡ i + length (p.text a)
  wide {i} {e} {a} f =
      omega (
        arith,
        ap length (P.sound (drop i t) a (drop e t) f.finds).1,
        length-append (p.text a) (drop e t),
        length-drop i t,
        length-drop e t,
        f.from,
        f.to,
      )

  pub valid : {i e : ℕ} {a : A} → Found p t i a e → p.Valid a
  valid {i} {e} {a} f = (P.sound (drop i t) a (drop e t) f.finds).0

-- one after the other
module _ {A B : Type 0} {p : Form A} (P : Laws p) (q : Form B) (t : List ℕ) where
  pub found_both : {i e g : ℕ} {a : A} {b : B} → Found p t i a e → Found q t e b g → Found (sequence p q) t i (a, b) g
  found_both {a = a} f h = record {
    finds = ap (then_parse p q) f.finds ∙ ap (after (length (p.text a)) (λ b. (a, b))) h.finds;
    from = omega (arith, f.from, h.from);
    to = h.to;
  }

  pub stops_second : {i e g : ℕ} {a : A} → Found p t i a e → Stops q t e g → Stops (sequence p q) t i g
  stops_second {i} {e} {g} {a} f s =
      let z : length (p.text a) + (g - e) ≡ g - i = omega (arith, wide P t f, s.from) in
      record {
        finds = ap (then_parse p q) f.finds ∙ ap (after (length (p.text a)) (λ b. (a, b))) s.finds ∙ ap (λ (n : ℕ). stopped n) z;
        from = omega (arith, f.from, s.from);
        to = s.to;
      }

  pub stops_first : {i e : ℕ} → Stops p t i e → Stops (sequence p q) t i e
  stops_first s = record { finds = ap (then_parse p q) s.finds; from = s.from; to = s.to }

-- said of another value
module _ {A B : Type 0} (p : Form A) (f : A → B) (Valid : B → Type 0) (text : B → List ℕ) (t : List ℕ) where
  abbrev Q : Form B
  Q = via p f Valid text

  pub found_via : {i e : ℕ} {a : A} → Found p t i a e → Found Q t i (f a) e
  found_via x = record { finds = ap (after 0 f) x.finds; from = x.from; to = x.to }

  pub stops_via : {i e : ℕ} → Stops p t i e → Stops Q t i e
  stops_via {i} {e} x =
      let z : 0 + (e - i) ≡ e - i = omega arith in
      record { finds = ap (after 0 f) x.finds ∙ ap (λ (n : ℕ). stopped n) z; from = x.from; to = x.to }

-- one of two, by the next byte
module _ {A B : Type 0} (x : ℕ) (p : Form A) (q : Form B) (t : List ℕ) (i : ℕ) where
  by_left : (s : List ℕ) → starts_with x s ≡ true → (either x p q).parse s ≡ after 1 (λ a. inl a) (p.parse (drop 1 s))
  by_left [] h = absurd (true≢false (sym h))
  by_left (b ∷ s) h = rw h

  by_right : (s : List ℕ) → starts_with x s ≡ false → (either x p q).parse s ≡ after 0 (λ b. inr b) (q.parse s)
  by_right [] h = refl
  by_right (b ∷ s) h = rw h

  pub gives_left : (a : A) (e : ℕ) (stop : Bool) → starts_with x (drop i t) ≡ true → Gives p t (i + 1) a e stop
      → Gives (either x p q) t i (inl a) e stop
  gives_left a e stop h g = go stop g
    where
      starts : (either x p q).parse (drop i t) ≡ after 1 (λ a. inl a) (p.parse (drop (i + 1) t))
      starts = by_left (drop i t) h ∙ ap (λ (s : List ℕ). after 1 (λ a. inl a) (p.parse s)) (drop-drop 1 i t)

      go : (stop : Bool) → Gives p t (i + 1) a e stop → Gives (either x p q) t i (inl a) e stop
      go false g = record { finds = starts ∙ ap (after 1 (λ a. inl a)) g.finds; from = omega (arith, g.from); to = g.to }
      go true g =
          let z : 1 + (e - (i + 1)) ≡ e - i = omega (arith, g.from) in
          record { finds = starts ∙ ap (after 1 (λ a. inl a)) g.finds ∙ ap (λ (n : ℕ). stopped n) z; from = omega (arith, g.from); to = g.to }

  pub gives_right : (b : B) (e : ℕ) (stop : Bool) → starts_with x (drop i t) ≡ false → Gives q t i b e stop
      → Gives (either x p q) t i (inr b) e stop
  gives_right b e stop h g = go stop g
    where
      go : (stop : Bool) → Gives q t i b e stop → Gives (either x p q) t i (inr b) e stop
      go false g = record { finds = by_right (drop i t) h ∙ ap (after 0 (λ b. inr b)) g.finds; from = g.from; to = g.to }
      go true g =
          let z : 0 + (e - i) ≡ e - i = omega arith in
          record { finds = by_right (drop i t) h ∙ ap (after 0 (λ b. inr b)) g.finds ∙ ap (λ (n : ℕ). stopped n) z; from = g.from; to = g.to }
