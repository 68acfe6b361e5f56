-- The laws of any number of items. Assumes nothing.
use Prim.Native.Nat.{ℕ, zero, suc, ◌≤◌, ◌<◌}
use native.Mathlib.Omega.{arith}
use mathlib.Core.Bool.{Bool, true, false}
use mathlib.Core.List.{List, [], ◌∷◌, ◌++◌, append_assoc, append-nil}
use mathlib.Core.Path.{◌≡◌, refl, sym, ap, ◌∙◌, subst}
use borrow.Author.Tests.{eq-eqb, ne_eqb, eqb-true, eqb-false}
use lib.Dec.{eqb}
use lib.ListN.{length, take, length-append}
use Rattle.forms.specs.Shape.{Begins}
use Rattle.forms.specs.Form.{Parse, parsed, stopped, after, Form}
use Rattle.forms.specs.Many.{then_more, many_within, many}
use Rattle.forms.proofs.Parse.{not_both, same_place, same_value, same_rest, after_parsed, after_stopped}
use Rattle.forms.proofs.Form.{Laws, Next, first_joined, first_kept, begins_past, begins_past_then, length_past}

-- every text of p begins with x
abbrev pub FirstByte : {A : Type 0} → ℕ → Form A → Type 0
FirstByte {A} x p = (a : A) → p.Valid a → (u : List ℕ) × (p.text a ≡ x ∷ u)

module _ {A : Type 0} (x : ℕ) (p : Form A) where
  abbrev M : Form (List A)
  M = many x p

  abbrev within : ℕ → List ℕ → Parse (List A)
  within = many_within x p

  -- nothing more
  pub none_left : (k : ℕ) → within k [] ≡ parsed [] []
  unfolding many_within
  none_left zero = refl
  none_left (suc k) = refl

  pub no_item : (k b : ℕ) (t : List ℕ) → (b ≡ x → ⊥) → within k (b ∷ t) ≡ parsed [] (b ∷ t)
  unfolding many_within
  no_item zero b t n = refl
  no_item (suc k) b t n = rw (ne_eqb b x n)

  -- one item, and then the others
  pub an_item : (k b : ℕ) (t : List ℕ) → b ≡ x → within (suc k) (b ∷ t) ≡ then_more x p (λ r. within k r) (p.parse (b ∷ t))
  unfolding many_within
  an_item k b t e = rw (eq-eqb b x e)

  module _ (P : Laws p) (heads : FirstByte x p) where
    longer : (a : A) → p.Valid a → (r : List ℕ) → length r < length (p.text a ++ r)
    longer a v r = omega (arith, length-append (p.text a) r, ap length (heads a v).1)

    past_item : (k : ℕ) (a : A) (r : List ℕ) (y : Parse (List A)) → p.Valid a → p.parse (p.text a ++ r) ≡ parsed a r → length (p.text a ++ r) ≤ suc k → within k r ≡ y
        → within (suc k) (p.text a ++ r) ≡ after (length (p.text a)) (λ xs. a ∷ xs) y
    past_item k a r y v e h f =
        let u = (heads a v).0 in
        let q : p.text a ++ r ≡ x ∷ (u ++ r) = ap (λ (z : List ℕ). z ++ r) (heads a v).1 in
        ap (within (suc k)) q
        ∙ an_item k x (u ++ r) refl
        ∙ ap (λ (z : List ℕ). then_more x p (λ s. within k s) (p.parse z)) (sym q)
        ∙ ap (then_more x p (λ s. within k s)) e
        ∙ ap (after (length (p.text a)) (λ xs. a ∷ xs)) f

    -- a text of the items, where each is parsed and the parser ends after the last
    pub first_may : (xs : List A) (r : List ℕ) → M.Valid xs → p.Follow x → Next M.Follow r → Next p.Follow (M.text xs ++ r)
    first_may [] [] v m h = tt
    first_may [] (b ∷ r) v m h = h.0
    first_may (a ∷ xs) r v m h =
        subst (λ (s : List ℕ). Next p.Follow ((s ++ M.text xs) ++ r)) (sym (heads a v.0).1) m

    complete : (xs : List A) (r : List ℕ) (k : ℕ) → M.Valid xs → p.Follow x → Next M.Follow r → length (M.text xs ++ r) ≤ k → within k (M.text xs ++ r) ≡ parsed xs r
    complete [] [] k v m h l = none_left k
    complete [] (b ∷ r) k v m h l = no_item k b r h.1
    complete (a ∷ xs) r zero v m h l =
        absurd (omega (arith, ap length (append_assoc (p.text a) (M.text xs) r), longer a v.0 (M.text xs ++ r)))
    complete (a ∷ xs) r (suc k) v m h l =
        let q = append_assoc (p.text a) (M.text xs) r in
        let n = ap length q in
        ap (within (suc k)) q
        ∙ past_item k a (M.text xs ++ r) (parsed xs r) v.0 (P.complete a (M.text xs ++ r) v.0 (first_may xs r v.1 m h)) (omega arith)
        (complete xs r k v.1 m h (omega (arith, longer a v.0 (M.text xs ++ r))))

    -- what parsing a text that has a byte left can be: an item and the others, or nothing
    data Case (b : ℕ) (t : List ℕ) : Type 0 where
      nothing : (b ≡ x → ⊥) → Case b t
      item : (a : A) (r : List ℕ) → b ≡ x → p.parse (b ∷ t) ≡ parsed a r → p.Valid a → b ∷ t ≡ p.text a ++ r → Case b t
      broken : (n : ℕ) → b ≡ x → p.parse (b ∷ t) ≡ stopped n → Case b t

    case : (b : ℕ) (t : List ℕ) → Case b t
    case b t = go (eqb b x) refl
      where
        found : b ≡ x → (y : Parse A) → p.parse (b ∷ t) ≡ y → Case b t
        found q (parsed a r) i = let from_p = P.sound (b ∷ t) a r i in item a r q i from_p.0 from_p.1
        found q (stopped n) i = broken n q i

        go : (w : Bool) → eqb b x ≡ w → Case b t
        go true i = found (eqb-true b x i) (p.parse (b ∷ t)) refl
        go false i = nothing (eqb-false b x i)

    pub with_item : (k b : ℕ) (t : List ℕ) (y : Parse A) → b ≡ x → p.parse (b ∷ t) ≡ y → within (suc k) (b ∷ t) ≡ then_more x p (λ r. within k r) y
    with_item k b t y q i = an_item k b t q ∙ ap (then_more x p (λ r. within k r)) i

    -- any bound from the text's length on gives the same
    pub enough : (j k : ℕ) (t : List ℕ) → length t ≤ j → length t ≤ k → within j t ≡ within k t
    enough zero k [] h l = none_left zero ∙ sym (none_left k)
    enough zero k (b ∷ t) h l = absurd (omega arith)
    enough (suc j) k [] h l = none_left (suc j) ∙ sym (none_left k)
    enough (suc j) zero (b ∷ t) h l = absurd (omega arith)
    enough (suc j) (suc k) (b ∷ t) h l = go (enough j k) (case b t)
      where
        go : ((t : List ℕ) → length t ≤ j → length t ≤ k → within j t ≡ within k t) → Case b t → within (suc j) (b ∷ t) ≡ within (suc k) (b ∷ t)
        go ih (nothing n) = no_item (suc j) b t n ∙ sym (no_item (suc k) b t n)
        go ih (item a r q i v w) =
            let shorter = longer a v r in
            let same = ap length w in
            with_item j b t (parsed a r) q i ∙ ap (after (length (p.text a)) (λ xs. a ∷ xs)) (ih r (omega arith) (omega arith)) ∙ sym (with_item k b t (parsed a r) q i)
        go ih (broken n q i) = with_item j b t (stopped n) q i ∙ sym (with_item k b t (stopped n) q i)

    sound : (k : ℕ) (t : List ℕ) (xs : List A) (r : List ℕ) → within k t ≡ parsed xs r → M.Valid xs × (t ≡ M.text xs ++ r)
    unfolding many_within
    sound zero t xs r e = subst (λ (z : List A). M.Valid z × (t ≡ M.text z ++ r)) (same_value e) (tt, same_rest e)
    sound (suc k) [] xs r e = subst (λ (z : List A). M.Valid z × ([] ≡ M.text z ++ r)) (same_value e) (tt, same_rest e)
    sound (suc k) (b ∷ t) xs r e = go (sound k) (case b t)
      where
        go : ((t : List ℕ) (xs : List A) (r : List ℕ) → within k t ≡ parsed xs r → M.Valid xs × (t ≡ M.text xs ++ r)) → Case b t → M.Valid xs × (b ∷ t ≡ M.text xs ++ r)
        go ih (nothing n) =
            let f = sym (no_item (suc k) b t n) ∙ e in
            subst (λ (z : List A). M.Valid z × (b ∷ t ≡ M.text z ++ r)) (same_value f) (tt, same_rest f)
        go ih (item a s q i v w) =
            let l = after_parsed (length (p.text a)) (λ z. a ∷ z) (within k s) (sym (with_item k b t (parsed a s) q i) ∙ e) in
            let others = ih s l.0 r l.1 in
            subst (λ (z : List A). M.Valid z × (b ∷ t ≡ M.text z ++ r)) l.2
            ((v, others.0), w ∙ ap (λ (z : List ℕ). p.text a ++ z) others.1 ∙ sym (append_assoc (p.text a) (M.text l.0) r))
        go ih (broken n q i) = absurd (not_both (sym (sym (with_item k b t (stopped n) q i) ∙ e)))

    ahead_none : (k m : ℕ) (xs : List A) (r s : List ℕ) → within k [] ≡ parsed xs r → take 1 s ≡ take 1 r → within m (M.text xs ++ s) ≡ parsed xs s
    ahead_none k m xs r s e f =
        let g = sym (none_left k) ∙ e in
        let z : s ≡ [] = empty s (f ∙ ap (take 1) (sym (same_rest g))) in
        subst (λ (y : List A). within m (M.text y ++ s) ≡ parsed y s) (same_value g) (ap (within m) z ∙ none_left m ∙ ap (λ (y : List ℕ). parsed [] y) (sym z))
      where
        empty : (s : List ℕ) → take 1 s ≡ [] → s ≡ []
        empty [] q = refl
        empty (c ∷ s) q = absurd (omega (arith, ap length q))

    ahead : (k m : ℕ) (t : List ℕ) (xs : List A) (r s : List ℕ) → length t ≤ k → length (M.text xs ++ s) ≤ m → within k t ≡ parsed xs r → take 1 s ≡ take 1 r
        → within m (M.text xs ++ s) ≡ parsed xs s
    ahead zero m [] xs r s h l e f = ahead_none zero m xs r s e f
    ahead zero m (b ∷ t) xs r s h l e f = absurd (omega arith)
    ahead (suc k) m [] xs r s h l e f = ahead_none (suc k) m xs r s e f
    ahead (suc k) m (b ∷ t) xs r s h l e f = go (ahead k) (case b t) m xs l e
      where
        same : (m : ℕ) (s : List ℕ) → take 1 s ≡ b ∷ [] → (b ≡ x → ⊥) → within m s ≡ parsed [] s
        same m [] q n = absurd (omega (arith, ap length q))
        same m (c ∷ s) q n = let z : c ≡ b = cc in no_item m c s (λ i. n (sym z ∙ i))

        go : ((m : ℕ) (t : List ℕ) (xs : List A) (r s : List ℕ) → length t ≤ k → length (M.text xs ++ s) ≤ m → within k t ≡ parsed xs r → take 1 s ≡ take 1 r → within m (M.text xs ++ s) ≡ parsed xs s)
            → Case b t → (m : ℕ) (xs : List A) → length (M.text xs ++ s) ≤ m → within (suc k) (b ∷ t) ≡ parsed xs r → within m (M.text xs ++ s) ≡ parsed xs s
        go ih (nothing n) m xs l e =
            let g = sym (no_item (suc k) b t n) ∙ e in
            subst (λ (y : List A). within m (M.text y ++ s) ≡ parsed y s) (same_value g) (same m s (f ∙ ap (take 1) (sym (same_rest g))) n)
        go ih (item a u q i v w) m xs l e =
            let g = after_parsed (length (p.text a)) (λ z. a ∷ z) (within k u) (sym (with_item k b t (parsed a u) q i) ∙ e) in
            one m g l
          where
            one : (m : ℕ) → (g : (z : List A) × (within k u ≡ parsed z r) × (a ∷ z ≡ xs)) → length (M.text xs ++ s) ≤ m → within m (M.text xs ++ s) ≡ parsed xs s
            one zero g l = absurd (omega (arith, ap (λ (y : List A). length (M.text y ++ s)) g.2, ap length (append_assoc (p.text a) (M.text g.0) s), longer a v (M.text g.0 ++ s)))
            one (suc m) g l =
                let z = g.0 in
                let rest = M.text z ++ s in
                let c = append_assoc (p.text a) (M.text z) s in
                let n1 = ap (λ (y : List A). length (M.text y ++ s)) g.2 in
                let n2 = ap length c in
                let n3 = longer a v rest in
                let others = (sound k u z r g.1).1 in
                let first : take 1 rest ≡ take 1 u = first_joined (M.text z) r s f ∙ ap (take 1) (sym others) in
                let shorter : length u ≤ k = omega (arith, longer a v u, ap length w) in
                subst (λ (y : List A). within (suc m) (M.text y ++ s) ≡ parsed y s) g.2
                (ap (within (suc m)) c ∙ past_item m a rest (parsed z s) v (P.ahead (b ∷ t) a u rest i first) (omega arith) (ih m u z r s shorter (omega arith) g.1 f))
        go ih (broken n q i) m xs l e = absurd (not_both (sym (sym (with_item k b t (stopped n) q i) ∙ e)))

    viable : (k : ℕ) (t : List ℕ) (n : ℕ) → length t ≤ k → within k t ≡ stopped n → (n ≤ length t) × Begins M.Valid M.text (take n t)
    viable zero [] n h e = absurd (not_both (sym (none_left zero) ∙ e))
    viable zero (b ∷ t) n h e = absurd (omega arith)
    viable (suc k) [] n h e = absurd (not_both (sym (none_left (suc k)) ∙ e))
    viable (suc k) (b ∷ t) n h e = go (viable k) (case b t)
      where
        go : ((t : List ℕ) (n : ℕ) → length t ≤ k → within k t ≡ stopped n → (n ≤ length t) × Begins M.Valid M.text (take n t)) → Case b t
            → (n ≤ suc (length t)) × Begins M.Valid M.text (take n (b ∷ t))
        go ih (nothing q) = absurd (not_both (sym (no_item (suc k) b t q) ∙ e))
        go ih (item a u q i v w) =
            let m = after_stopped (length (p.text a)) (λ z. a ∷ z) (within k u) (sym (with_item k b t (parsed a u) q i) ∙ e) in
            let others = ih u m.0 (omega (arith, longer a v u, ap length w)) m.1 in (
              omega (arith, m.2, others.0, length_past (b ∷ t) (p.text a) u w),
              record {
                value = a ∷ others.1.value;
                well_formed = (v, others.1.well_formed);
                more = others.1.more;
                goes_on =
                    ap (λ (z : List ℕ). p.text a ++ z) others.1.goes_on
                    ∙ sym (append_assoc (p.text a) (take m.0 u) others.1.more)
                    ∙ ap (λ (z : List ℕ). z ++ others.1.more) (sym (begins_past (b ∷ t) (p.text a) u w n m.0 m.2));
              },
            )
        go ih (broken m q i) =
            let z = same_place (sym (with_item k b t (stopped m) q i) ∙ e) in
            let from_p = P.viable (b ∷ t) n (i ∙ ap (λ (y : ℕ). stopped y) (sym z)) in
            (from_p.0, record { value = from_p.1.value ∷ []; well_formed = (from_p.1.well_formed, tt); more = from_p.1.more; goes_on = append-nil (p.text from_p.1.value) ∙ from_p.1.goes_on })

    stable : (k m : ℕ) (t : List ℕ) (n : ℕ) (s : List ℕ) → length t ≤ k → length (take (suc n) t ++ s) ≤ m → within k t ≡ stopped n → n < length t
        → within m (take (suc n) t ++ s) ≡ stopped n
    stable zero m t n s h l e f = absurd (omega arith)
    stable (suc k) m [] n s h l e f = absurd (omega arith)
    stable (suc k) zero (b ∷ t) n s h l e f = absurd (omega arith)
    stable (suc k) (suc m) (b ∷ t) n s h l e f = go (stable k m) (case b t)
      where
        go : ((t : List ℕ) (n : ℕ) (s : List ℕ) → length t ≤ k → length (take (suc n) t ++ s) ≤ m → within k t ≡ stopped n → n < length t → within m (take (suc n) t ++ s) ≡ stopped n)
            → Case b t → within (suc m) (b ∷ (take n t ++ s)) ≡ stopped n
        go ih (nothing q) = absurd (not_both (sym (no_item (suc k) b t q) ∙ e))
        go ih (item a u q i v w) =
            let o = after_stopped (length (p.text a)) (λ z. a ∷ z) (within k u) (sym (with_item k b t (parsed a u) q i) ∙ e) in
            let long = length_past (b ∷ t) (p.text a) u w in
            let more : o.0 < length u = omega (arith, o.2, long) in
            let rest : List ℕ = take (suc o.0) u ++ s in
            let c = begins_past_then (b ∷ t) (p.text a) u w (suc n) (suc o.0) s (omega (arith, o.2)) in
            let n1 = ap length c in
            let n2 = longer a v rest in
            ap (within (suc m)) c
            ∙ past_item m a rest (stopped o.0) v (P.ahead (b ∷ t) a u rest i (first_kept u s o.0 more)) (omega arith)
            (ih u o.0 s (omega (arith, longer a v u, ap length w)) (omega arith) o.1 more)
            ∙ ap (λ (z : ℕ). stopped z) (sym o.2)
        go ih (broken o q i) =
            let z = same_place (sym (with_item k b t (stopped o) q i) ∙ e) in
            with_item m b (take n t ++ s) (stopped n) q (P.stable (b ∷ t) n s (i ∙ ap (λ (y : ℕ). stopped y) (sym z)) f)

    pub many_laws : p.Follow x → Laws (many x p)
    many_laws again = record {
      some = [];
      some_valid = tt;
      complete = λ xs r v h. complete xs r (length (M.text xs ++ r)) v again h (omega arith);
      sound = λ t xs r e. sound (length t) t xs r e;
      ahead = λ t xs r s e h. ahead (length t) (length (M.text xs ++ s)) t xs r s (omega arith) (omega arith) e h;
      viable = λ t n e. viable (length t) t n (omega arith) e;
      stable = λ t n s e h. stable (length t) (length (take (suc n) t ++ s)) t n s (omega arith) (omega arith) e h;
    }
