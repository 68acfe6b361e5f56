-- The laws of the same texts, said of other values. Assumes nothing.
use Prim.Native.Nat.{ℕ, suc, ◌+◌, ◌≤◌, ◌<◌}
use native.Mathlib.Omega.{arith}
use mathlib.Core.List.{List, ◌++◌}
use mathlib.Core.Path.{◌≡◌, sym, ap, ◌∙◌, subst}
use lib.ListN.{length, take}
use Rattle.forms.specs.Shape.{Begins}
use Rattle.forms.specs.Form.{Parse, parsed, stopped, after, Form}
use Rattle.forms.specs.Combined.{via}
use Rattle.forms.proofs.Parse.{after_parsed, after_stopped}
use Rattle.forms.proofs.Form.{Laws, Next}

-- f gives the other value, g the value that p parses; `text` is p's text in other words
pub record Same {A B : Type 0} (p : Form A) (f : A → B) (g : B → A) (Valid : B → Type 0) (text : B → List ℕ) : Type 0 where
  pub to_valid : (b : B) → Valid b → p.Valid (g b)
  pub back : (b : B) → Valid b → f (g b) ≡ b
  pub from_valid : (a : A) → p.Valid a → Valid (f a)
  pub same_text : (a : A) → p.Valid a → text (f a) ≡ p.text a

module _ {A B : Type 0} {p : Form A} {f : A → B} {g : B → A} {Valid : B → Type 0} {text : B → List ℕ} (P : Laws p) (same : Same p f g Valid text) where
  abbrev via_parse : List ℕ → Parse B
  via_parse t = after 0 f (p.parse t)

  via_text : (b : B) → Valid b → text b ≡ p.text (g b)
  via_text b v = ap text (sym (same.back b v)) ∙ same.same_text (g b) (same.to_valid b v)

  via_complete : (b : B) (r : List ℕ) → Valid b → Next p.Follow r → via_parse (text b ++ r) ≡ parsed b r
  via_complete b r v h =
      ap (λ (s : List ℕ). via_parse (s ++ r)) (via_text b v)
      ∙ ap (after 0 f) (P.complete (g b) r (same.to_valid b v) h)
      ∙ ap (λ (z : B). parsed z r) (same.back b v)

  via_sound : (t : List ℕ) (b : B) (r : List ℕ) → via_parse t ≡ parsed b r → Valid b × (t ≡ text b ++ r)
  via_sound t b r e =
      let l = after_parsed 0 f (p.parse t) e in
      let from_p = P.sound t l.0 r l.1 in
      subst (λ (z : B). Valid z × (t ≡ text z ++ r)) l.2
      (same.from_valid l.0 from_p.0, from_p.1 ∙ ap (λ (s : List ℕ). s ++ r) (sym (same.same_text l.0 from_p.0)))

  via_ahead : (t : List ℕ) (b : B) (r s : List ℕ) → via_parse t ≡ parsed b r → take 1 s ≡ take 1 r → via_parse (text b ++ s) ≡ parsed b s
  via_ahead t b r s e h =
      let l = after_parsed 0 f (p.parse t) e in
      let v = (P.sound t l.0 r l.1).0 in
      subst (λ (z : B). via_parse (text z ++ s) ≡ parsed z s) l.2
      (ap (λ (u : List ℕ). via_parse (u ++ s)) (same.same_text l.0 v) ∙ ap (after 0 f) (P.ahead t l.0 r s l.1 h))

  via_stopped : (t : List ℕ) (n : ℕ) → via_parse t ≡ stopped n → p.parse t ≡ stopped n
  via_stopped t n e =
      let m = after_stopped 0 f (p.parse t) e in
      let z : m.0 ≡ n = omega (arith, m.2) in
      m.1 ∙ ap (λ (k : ℕ). stopped k) z

  via_viable : (t : List ℕ) (n : ℕ) → via_parse t ≡ stopped n → (n ≤ length t) × Begins Valid text (take n t)
  via_viable t n e =
      let from_p = P.viable t n (via_stopped t n e) in
      let b = from_p.1 in (
        from_p.0,
        record
            { value = f b.value; well_formed = same.from_valid b.value b.well_formed; more = b.more; goes_on = same.same_text b.value b.well_formed ∙ b.goes_on },
      )

  via_stable : (t : List ℕ) (n : ℕ) (s : List ℕ) → via_parse t ≡ stopped n → n < length t → via_parse (take (suc n) t ++ s) ≡ stopped n
  via_stable t n s e h =
      let z : 0 + n ≡ n = omega arith in
      ap (after 0 f) (P.stable t n s (via_stopped t n e) h) ∙ ap (λ (k : ℕ). stopped k) z

  pub via_laws : Laws (via p f Valid text)
  via_laws = record {
    some = f P.some;
    some_valid = same.from_valid P.some P.some_valid;
    complete = via_complete;
    sound = via_sound;
    ahead = via_ahead;
    viable = via_viable;
    stable = via_stable;
  }
