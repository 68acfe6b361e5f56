-- The laws of a fixed word. Assumes nothing.
use Prim.Native.Nat.{ℕ, suc, ◌≤◌, ◌<◌}
use native.Mathlib.Omega.{arith}
use mathlib.Core.Bool.{Bool, true, false, cond}
use mathlib.Core.List.{List, [], ◌∷◌, ◌++◌}
use mathlib.Core.Path.{◌≡◌, refl, sym, ap, ap₂, ◌∙◌}
use borrow.Author.Tests.{eq-eqb, eqb-true}
use lib.Dec.{eqb}
use lib.ListN.{length, take}
use Rattle.forms.specs.Form.{Parse, parsed, stopped, after}
use Rattle.forms.specs.Word.{word_parse, word}
use Rattle.forms.proofs.Parse.{not_both, same_place, same_rest, after_parsed, after_stopped}
use Rattle.forms.proofs.Form.{Laws}

abbrev on : Parse (Unit {0}) → Parse (Unit {0})
on = after 1 (λ x. x)

pub word_complete : (w r : List ℕ) → word_parse w (w ++ r) ≡ parsed tt r
unfolding word_parse
word_complete [] r = refl
word_complete (c ∷ w) r = rw (eq-eqb c c refl, word_complete w r)

pub word_sound : (w t r : List ℕ) (a : Unit {0}) → word_parse w t ≡ parsed a r → t ≡ w ++ r
unfolding word_parse
word_sound [] t r a e = same_rest e
word_sound (c ∷ w) [] r a e = absurd (not_both (sym e))
word_sound (c ∷ w) (b ∷ t) r a e = go (word_sound w t r) (eqb b c) refl e
  where
    go : ((a : Unit {0}) → word_parse w t ≡ parsed a r → t ≡ w ++ r) → (x : Bool) → eqb b c ≡ x
        → cond x (on (word_parse w t)) (stopped 0) ≡ parsed a r
        → b ∷ t ≡ c ∷ (w ++ r)
    go ih true q i = let l = after_parsed 1 (λ x. x) (word_parse w t) i in ap₂ (λ (x : ℕ) (y : List ℕ). x ∷ y) (eqb-true b c q) (ih l.0 l.1)
    go ih false q i = absurd (not_both (sym i))

-- where it stops, the bytes before are the word's
pub word_viable : (w t : List ℕ) (n : ℕ) → word_parse w t ≡ stopped n → (n ≤ length t) × ((more : List ℕ) × (w ≡ take n t ++ more))
unfolding word_parse
word_viable [] t n e = absurd (not_both e)
word_viable (c ∷ w) [] n e = let z = same_place e in (omega arith, (c ∷ w, ap (λ (k : ℕ). take k [] ++ c ∷ w) (sym z)))
word_viable (c ∷ w) (b ∷ t) n e = go (word_viable w t) (eqb b c) refl e
  where
    Goal : Type 0
    Goal = (n ≤ suc (length t)) × ((more : List ℕ) × (c ∷ w ≡ take n (b ∷ t) ++ more))

    go : ((m : ℕ) → word_parse w t ≡ stopped m → (m ≤ length t) × ((more : List ℕ) × (w ≡ take m t ++ more))) → (x : Bool) → eqb b c ≡ x
        → cond x (on (word_parse w t)) (stopped 0) ≡ stopped n → Goal
    go ih true q i =
        let m = after_stopped 1 (λ x. x) (word_parse w t) i in
        let l = ih m.0 m.1 in
        let z : n ≡ suc m.0 = omega (arith, m.2) in (
          omega (arith, l.0),
          (l.1.0, ap₂ (λ (x : ℕ) (y : List ℕ). x ∷ y) (sym (eqb-true b c q)) l.1.1 ∙ ap (λ (k : ℕ). take k (b ∷ t) ++ l.1.0) (sym z)),
        )
    go ih false q i = let z = same_place i in (omega arith, (c ∷ w, ap (λ (k : ℕ). take k (b ∷ t) ++ c ∷ w) (sym z)))

pub word_stable : (w t : List ℕ) (n : ℕ) (s : List ℕ) → word_parse w t ≡ stopped n → n < length t → word_parse w (take (suc n) t ++ s) ≡ stopped n
unfolding word_parse
word_stable [] t n s e h = absurd (not_both e)
word_stable (c ∷ w) [] n s e h = absurd (omega arith)
word_stable (c ∷ w) (b ∷ t) n s e h = go (word_stable w t) (eqb b c) refl e
  where
    go : ((m : ℕ) (s : List ℕ) → word_parse w t ≡ stopped m → m < length t → word_parse w (take (suc m) t ++ s) ≡ stopped m) → (x : Bool)
        → eqb b c ≡ x
        → cond x (on (word_parse w t)) (stopped 0) ≡ stopped n → cond (eqb b c) (on (word_parse w (take n t ++ s))) (stopped 0) ≡ stopped n
    go ih true q i =
        let m = after_stopped 1 (λ x. x) (word_parse w t) i in
        let z : n ≡ suc m.0 = omega (arith, m.2) in
        rw (q, z, ih m.0 s m.1 (omega (arith, m.2))) (ap (λ (k : ℕ). stopped k) (sym m.2 ∙ z))
    go ih false q i = rw q i

pub word_laws : (w : List ℕ) → Laws (word w)
word_laws w = record {
  some = tt;
  some_valid = tt;
  complete = λ a r v h. word_complete w r;
  sound = λ t a r e. (tt, word_sound w t r a e);
  ahead = λ t a r s e h. word_complete w s;
  viable = λ t n e. let l = word_viable w t n e in (l.0, record { value = tt; well_formed = tt; more = l.1.0; goes_on = l.1.1 });
  stable = word_stable w;
}
