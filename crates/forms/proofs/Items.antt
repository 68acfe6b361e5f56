-- Items at places of a text, one after the other: what parsing finds from an item on. Assumes nothing.
use Prim.Native.Nat.{ℕ, suc, ◌+◌, ◌-◌, ◌≤◌, ◌<◌}
use native.Mathlib.Omega.{arith}
use mathlib.Core.Bool.{true, false, true≢false}
use mathlib.Core.List.{List, [], ◌∷◌}
use mathlib.Core.Path.{◌≡◌, refl, sym, ap, ◌∙◌}
use borrow.Author.Tests.{eqb-true, eqb-false}
use lib.ListN.{length, drop, length-drop}
use Rattle.forms.specs.Form.{Parse, parsed, stopped, after, Form}
use Rattle.forms.specs.Tests.{starts_with}
use Rattle.forms.specs.Many.{then_more, many_within, many}
use Rattle.forms.specs.Place.{Found, Stops}
use Rattle.forms.proofs.Form.{Laws}
use Rattle.forms.proofs.Many.{FirstByte, none_left, no_item, with_item, enough}
use Rattle.forms.proofs.Place.{wide, valid}

module _ {A : Type 0} (x : ℕ) (p : Form A) (P : Laws p) (heads : FirstByte x p) (t : List ℕ) where
  abbrev M : Form (List A)
  M = many x p

  -- an item takes at least a byte
  pub moves : {i e : ℕ} {a : A} → Found p t i a e → i < e
  moves {a = a} f = omega (arith, wide P t f, ap length (heads a (valid P t f)).1)

  -- where the next byte does not begin an item, there is none
  pub no_items : (i : ℕ) → i ≤ length t → starts_with x (drop i t) ≡ false → Found M t i [] i
  no_items i l h = record { finds = go (drop i t) h; from = omega arith; to = l }
    where
      go : (s : List ℕ) → starts_with x s ≡ false → M.parse s ≡ parsed [] s
      go [] h = none_left x p 0
      go (b ∷ s) h = no_item x p (length (b ∷ s)) b s (eqb-false b x h)

  -- where it does, the item is parsed and then the others
  module _ (i : ℕ) (begins : starts_with x (drop i t) ≡ true) where
    item_first : (y : Parse A) → p.parse (drop i t) ≡ y
        → (k : ℕ) × (length (drop i t) ≡ suc k) × (M.parse (drop i t) ≡ then_more x p (λ r. many_within x p k r) y)
    item_first y e = go (drop i t) begins e
      where
        go : (s : List ℕ) → starts_with x s ≡ true → p.parse s ≡ y
            → (k : ℕ) × (length s ≡ suc k) × (M.parse s ≡ then_more x p (λ r. many_within x p k r) y)
        go [] h e = absurd (true≢false (sym h))
        go (b ∷ s) h e = (length s, refl, with_item x p P heads (length s) b s y (eqb-true b x h) e)

    pub item_stops : {e : ℕ} → Stops p t i e → Stops M t i e
    item_stops {e} s = record { finds = (item_first (stopped (e - i)) s.finds).2; from = s.from; to = s.to }

    module _ {e : ℕ} {a : A} (f : Found p t i a e) where
      then_others : M.parse (drop i t) ≡ after (length (p.text a)) (λ xs. a ∷ xs) (M.parse (drop e t))
      then_others =
          let g = item_first (parsed a (drop e t)) f.finds in
          let shorter : length (drop e t) ≤ g.0 = omega (arith, g.1, length-drop i t, length-drop e t, moves f, f.to) in
          g.2 ∙ ap (after (length (p.text a)) (λ xs. a ∷ xs)) (enough x p P heads g.0 (length (drop e t)) (drop e t) shorter (omega arith))

      pub item_then : {xs : List A} {g : ℕ} → Found M t e xs g → Found M t i (a ∷ xs) g
      item_then m = record {
        finds = then_others ∙ ap (after (length (p.text a)) (λ ys. a ∷ ys)) m.finds;
        from = omega (arith, f.from, m.from);
        to = m.to;
      }

      pub item_then_stops : {g : ℕ} → Stops M t e g → Stops M t i g
      item_then_stops {g} m =
          let z : length (p.text a) + (g - e) ≡ g - i = omega (arith, wide P t f, m.from) in
          record {
            finds = then_others ∙ ap (after (length (p.text a)) (λ ys. a ∷ ys)) m.finds ∙ ap (λ (n : ℕ). stopped n) z;
            from = omega (arith, f.from, m.from);
            to = m.to;
          }
