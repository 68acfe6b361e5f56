-- The laws of a number. Assumes nothing.
use Prim.Native.Nat.{ℕ, suc, ◌+◌, ◌*◌, ◌-◌, ◌/◌, ◌%◌, ◌≤◌, ◌<◌}
use native.Mathlib.Omega.{arith}
use mathlib.Core.Bool.{Bool, true, false, cond}
use mathlib.Core.List.{List, [], ◌∷◌, ◌++◌}
use mathlib.Core.Path.{◌≡◌, refl, sym, ap, ◌∙◌, subst}
use borrow.Author.Tests.{le-leb, leb-true}
use lib.Dec.{leb}
use lib.ListN.{length, take}
use lib.Seq.{append_snoc}
use Rattle.lists.proofs.Tests.{both_left, both_right}
use Rattle.forms.specs.Digits.{digits}
use Rattle.forms.specs.Shape.{Begins}
use Rattle.forms.specs.Form.{parsed, stopped}
use Rattle.forms.specs.Tests.{is_first, goes_on, NoDigit}
use Rattle.forms.specs.Number.{further, number_parse, Number, number}
use Rattle.forms.proofs.Digits.{digits_one, digits_more, digits_next, by_digits, few_digits, few_below}
use Rattle.forms.proofs.DigitTests.{Goes, goes, may_go, none_after}
use Rattle.forms.proofs.Parse.{not_both, same_place, same_value, same_rest}
use Rattle.forms.proofs.Form.{Laws, Next, next_same, begins_none}

module _ (least : ℕ) where
  pub first_low : (b : ℕ) → is_first least b ≡ true → 48 + least ≤ b
  first_low b e = leb-true (48 + least) b (both_left (leb (48 + least) b) (leb b 57) e)

  pub first_high : (b : ℕ) → is_first least b ≡ true → b ≤ 57
  first_high b e = leb-true b 57 (both_right (leb (48 + least) b) (leb b 57) e)

module _ (least : ℕ) (small : least ≤ 1) where
  few : (n : ℕ) → n < 10 → Number least n → (s : List ℕ) → number_parse least (digits n ++ s) ≡ further n s
  unfolding number_parse
  few n h v s =
      let z : 48 + n - 48 ≡ n = omega arith in
      rw (digits_one n h, le-leb (48 + least) (48 + n) (omega arith), le-leb (48 + n) 57 (omega arith), z)

  one_more : (v d : ℕ) (s : List ℕ) → 0 < v → v < 1000000000000 → d < 10 → further v ((48 + d) ∷ s) ≡ further (v * 10 + d) s
  unfolding further
  one_more v d s hv hm hd =
      let z : 48 + d - 48 ≡ d = omega arith in
      rw (may_go v (48 + d) hv hm (omega arith) (omega arith), z)

  -- the digits of n are parsed as n, and parsing goes on after them
  digits_parsed : (n : ℕ) → Number least n → (s : List ℕ) → number_parse least (digits n ++ s) ≡ further n s
  digits_parsed = by_digits (λ n. Number least n → (s : List ℕ) → number_parse least (digits n ++ s) ≡ further n s) few more
    where
      more : (n : ℕ) → 10 ≤ n → (Number least (n / 10) → (s : List ℕ) → number_parse least (digits (n / 10) ++ s) ≡ further (n / 10) s)
          → Number least n → (s : List ℕ)
          → number_parse least (digits n ++ s) ≡ further n s
      more n h ih v s =
          let below = few_below n v.1 in
          let z : n / 10 * 10 + n % 10 ≡ n = omega arith in
          ap (λ (l : List ℕ). number_parse least (l ++ s)) (digits_more n h)
          ∙ ap (number_parse least) (append_snoc (digits (n / 10)) (48 + n % 10) s)
          ∙ ih (omega arith, few_digits (n / 10) (omega arith)) ((48 + n % 10) ∷ s)
          ∙ one_more (n / 10) (n % 10) s (omega arith) (omega arith) (omega arith)
          ∙ ap (λ (k : ℕ). further k s) z

  -- after n no further digit can follow
  abbrev Ends : ℕ → ℕ → Type 0
  Ends n b = goes_on n b ≡ false

  further_none : (n : ℕ) (r : List ℕ) → Next (Ends n) r → further n r ≡ parsed n r
  unfolding further
  further_none n [] h = refl
  further_none n (b ∷ r) h = rw h

  number_complete : (n : ℕ) (r : List ℕ) → Number least n → Next NoDigit r → number_parse least (digits n ++ r) ≡ parsed n r
  number_complete n r v h = digits_parsed n v r ∙ further_none n r (ends r h)
    where
      ends : (r : List ℕ) → Next NoDigit r → Next (Ends n) r
      ends [] h = tt
      ends (b ∷ r) h = none_after n b h

  -- a digit more
  grown : (v b : ℕ) → Goes v b → Number least (v * 10 + (b - 48))
  grown v b g = (omega (arith, g.some), few_digits (v * 10 + (b - 48)) (omega (arith, g.few, g.low, g.high)))

  digits_grown : (v b : ℕ) (s : List ℕ) → Goes v b → digits (v * 10 + (b - 48)) ++ s ≡ digits v ++ b ∷ s
  digits_grown v b s g =
      let z : 48 + (b - 48) ≡ b = omega (arith, g.low) in
      ap (λ (l : List ℕ). l ++ s) (digits_next v (b - 48) g.some (omega (arith, g.low, g.high)) ∙ ap (λ (x : ℕ). digits v ++ x ∷ []) z)
      ∙ append_snoc (digits v) b s

  -- what is parsed: a number whose digits stand in the text, and that does not go on
  record Parsed (t : List ℕ) (n : ℕ) (r : List ℕ) : Type 0 where
    pub number : Number least n
    pub same : t ≡ digits n ++ r
    pub ends : Next (Ends n) r

  at_end : (v : ℕ) (s : List ℕ) (n : ℕ) (r : List ℕ) → Number least v → Next (Ends v) s → parsed v s ≡ parsed n r → Parsed (digits v ++ s) n r
  at_end v s n r h q e =
      subst (λ (k : ℕ). Parsed (digits v ++ s) k r) (same_value e)
      (subst (λ (l : List ℕ). Parsed (digits v ++ s) v l) (same_rest e) (record { number = h; same = refl; ends = q }))

  further_sound : (s : List ℕ) (v n : ℕ) (r : List ℕ) → Number least v → further v s ≡ parsed n r → Parsed (digits v ++ s) n r
  unfolding further
  further_sound [] v n r h e = at_end v [] n r h tt e
  further_sound (b ∷ s) v n r h e = go (further_sound s (v * 10 + (b - 48)) n r) (goes_on v b) refl e
    where
      go : (Number least (v * 10 + (b - 48)) → further (v * 10 + (b - 48)) s ≡ parsed n r → Parsed (digits (v * 10 + (b - 48)) ++ s) n r)
          → (x : Bool) → goes_on v b ≡ x → cond x (further (v * 10 + (b - 48)) s) (parsed v (b ∷ s)) ≡ parsed n r → Parsed (digits v ++ b ∷ s) n r
      go ih true q i = let g = goes v b q in subst (λ (t : List ℕ). Parsed t n r) (digits_grown v b s g) (ih (grown v b g) i)
      go ih false q i = at_end v (b ∷ s) n r h q i

  digits_first : (b : ℕ) (s : List ℕ) → is_first least b ≡ true → digits (b - 48) ++ s ≡ b ∷ s
  digits_first b s q =
      let z : 48 + (b - 48) ≡ b = omega (arith, first_low least b q) in
      ap (λ (l : List ℕ). l ++ s) (digits_one (b - 48) (omega (arith, first_high least b q))) ∙ ap (λ (x : ℕ). x ∷ s) z

  number_parsed : (t : List ℕ) (n : ℕ) (r : List ℕ) → number_parse least t ≡ parsed n r → Parsed t n r
  unfolding number_parse
  number_parsed [] n r e = absurd (not_both (sym e))
  number_parsed (b ∷ s) n r e = go (is_first least b) refl e
    where
      go : (x : Bool) → is_first least b ≡ x → cond x (further (b - 48) s) (stopped 0) ≡ parsed n r → Parsed (b ∷ s) n r
      go true q i =
          subst (λ (t : List ℕ). Parsed t n r) (digits_first b s q)
          (further_sound s (b - 48) n r (omega (arith, first_low least b q), few_digits (b - 48) (omega (arith, first_high least b q))) i)
      go false q i = absurd (not_both (sym i))

  number_sound : (t : List ℕ) (n : ℕ) (r : List ℕ) → number_parse least t ≡ parsed n r → Number least n × (t ≡ digits n ++ r)
  number_sound t n r e = let w = number_parsed t n r e in (w.number, w.same)

  number_ahead : (t : List ℕ) (n : ℕ) (r s : List ℕ) → number_parse least t ≡ parsed n r → take 1 s ≡ take 1 r
      → number_parse least (digits n ++ s) ≡ parsed n s
  number_ahead t n r s e h =
      let w = number_parsed t n r e in
      digits_parsed n w.number s ∙ further_none n s (next_same (Ends n) r s h w.ends)

  -- once there is a first digit there is a number
  further_never : (s : List ℕ) (v n : ℕ) → further v s ≡ stopped n → ⊥
  unfolding further
  further_never [] v n e = not_both e
  further_never (b ∷ s) v n e = go (further_never s (v * 10 + (b - 48)) n) (goes_on v b) e
    where
      go : (further (v * 10 + (b - 48)) s ≡ stopped n → ⊥) → (x : Bool) → cond x (further (v * 10 + (b - 48)) s) (parsed v (b ∷ s)) ≡ stopped n → ⊥
      go ih true i = ih i
      go ih false i = not_both i

  number_stopped : (t : List ℕ) (n : ℕ) → number_parse least t ≡ stopped n → (n ≡ 0) × Next (λ b. is_first least b ≡ false) t
  unfolding number_parse
  number_stopped [] n e = (same_place e, tt)
  number_stopped (b ∷ s) n e = go (is_first least b) refl e
    where
      go : (x : Bool) → is_first least b ≡ x → cond x (further (b - 48) s) (stopped 0) ≡ stopped n → (n ≡ 0) × (is_first least b ≡ false)
      go true q i = absurd (further_never s (b - 48) n i)
      go false q i = (same_place i, q)

  least_number : Number least least
  least_number = (omega arith, few_digits least (omega arith))

  number_viable : (t : List ℕ) (n : ℕ) → number_parse least t ≡ stopped n → (n ≤ length t) × Begins (Number least) digits (take n t)
  number_viable t n e = begins_none least least_number t n (number_stopped t n e).0

  number_stable : (t : List ℕ) (n : ℕ) (s : List ℕ) → number_parse least t ≡ stopped n → n < length t
      → number_parse least (take (suc n) t ++ s) ≡ stopped n
  unfolding number_parse
  number_stable [] n s e h = absurd (omega arith)
  number_stable (b ∷ t) n s e h = let w = number_stopped (b ∷ t) n e in rw w.1 (ap (λ (k : ℕ). stopped k) (sym w.0))

  pub number_laws : Laws (number least)
  number_laws = record {
    some = least;
    some_valid = least_number;
    complete = number_complete;
    sound = number_sound;
    ahead = number_ahead;
    viable = number_viable;
    stable = number_stable;
  }
