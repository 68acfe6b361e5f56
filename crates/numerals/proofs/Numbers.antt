-- A number read digit by digit. Assumes nothing.
use Prim.Native.Nat.{ℕ, ◌+◌, ◌*◌, ◌-◌, ◌<◌}
use native.Mathlib.Omega.{arith}
use mathlib.Core.Bool.{Bool, true, false, cond}
use mathlib.Core.List.{List, [], ◌∷◌}
use mathlib.Core.Path.{◌≡◌, refl, sym, ap, ◌∙◌}
use lib.ListN.{length, drop, length-drop}
use lib.Seq.{drop-drop}
use Rattle.std.specs.Prelude.{Some, None, Ok, Err}
use Rattle.forms.specs.Form.{parsed, stopped}
use Rattle.forms.specs.Tests.{goes_on, is_first}
use Rattle.forms.specs.Number.{further, number_parse, number}
use Rattle.forms.proofs.DigitTests.{goes}
use Rattle.forms.proofs.Number.{first_high}
use Rattle.scanner.specs.declared.Reader.{Reader}
use Rattle.scanner.specs.Scans.{Scans}
use Rattle.scanner.proofs.Scanned.{same_bytes}
use Rattle.numerals.specs.Digits.{digit_if}

-- a digit that was found is the next byte
pub record Next (test : ℕ → Bool) (s : List ℕ) (d : ℕ) : Type 0 where
  pub byte : ℕ
  pub rest : List ℕ
  pub is : s ≡ byte ∷ rest
  pub passed : test byte ≡ true
  pub value : d ≡ byte - 48

pub next_digit : (test : ℕ → Bool) (s : List ℕ) (d : ℕ) → digit_if test s ≡ Some d → Next test s d
next_digit test [] d e = cc
next_digit test (b ∷ r) d e = go (test b) refl e
  where
    go : (x : Bool) → test b ≡ x → cond x (Some (b - 48)) None ≡ Some d → Next test (b ∷ r) d
    go true q e = record { byte = b; rest = r; is = refl; passed = q; value = cc }
    go false q e = cc

pub digit_within : (test : ℕ → Bool) (t : List ℕ) (at d : ℕ) → digit_if test (drop at t) ≡ Some d → at < length t
digit_within test t at d e = let n = next_digit test (drop at t) d e in omega (arith, ap length n.is, length-drop at t)

-- no digit follows
number_ends : (v : ℕ) (s : List ℕ) → digit_if (goes_on v) s ≡ None → further v s ≡ parsed v s
unfolding further
number_ends v [] e = refl
number_ends v (b ∷ r) e = go (goes_on v b) e
  where
    go : (x : Bool) → cond x (Some (b - 48)) None ≡ None → cond x (further (v * 10 + (b - 48)) r) (parsed v (b ∷ r)) ≡ parsed v (b ∷ r)
    go true e = cc
    go false e = refl

none_begins : (least : ℕ) (s : List ℕ) → digit_if (is_first least) s ≡ None → number_parse least s ≡ stopped 0
unfolding number_parse
none_begins least [] e = refl
none_begins least (b ∷ r) e = go (is_first least b) e
  where
    go : (x : Bool) → cond x (Some (b - 48)) None ≡ None → cond x (further (b - 48) r) (stopped 0) ≡ stopped 0
    go true e = cc
    go false e = refl

number_begins : (least b d : ℕ) (s r r′ : List ℕ) → s ≡ b ∷ r → is_first least b ≡ true → d ≡ b - 48 → r′ ≡ r → number_parse least s ≡ further d r′
unfolding number_parse
number_begins least b d s r r′ is passed value rest = rw (is, passed, value, rest)

number_further : (v b d : ℕ) (s r r′ : List ℕ) → s ≡ b ∷ r → goes_on v b ≡ true → d ≡ b - 48 → r′ ≡ r → further v s ≡ further (v * 10 + d) r′
unfolding further
number_further v b d s r r′ is passed value rest = rw (is, passed, value, rest)

pub digit_small : (v : ℕ) (s : List ℕ) (d : ℕ) → digit_if (goes_on v) s ≡ Some d → (v < 1000000000000) × (d < 10)
digit_small v s d e =
    let n = next_digit (goes_on v) s d e in
    let g = goes v n.byte n.passed in
    (g.few, omega (arith, n.value, g.high))

module _ (least : ℕ) (from : Reader) where
  abbrev t : List ℕ
  t = from.text.now

  -- no number begins here
  pub number_none : digit_if (is_first least) (drop from.at t) ≡ None → Scans (number least) from (Err (record { at = from.at })) from
  number_none e = record {
    same_text = refl;
    parsed =
        let z : 0 ≡ from.at - from.at = omega arith in
        (record { finds = none_begins least (drop from.at t) e ∙ ap (λ (k : ℕ). stopped k) z; from = omega arith; to = from.inside }, refl);
  }

  -- the digits of v stand from the reader's first place on up to its place now
  pub record Digits (v : ℕ) (now : Reader) : Type 0 where
    pub same_text : now.text ≡ from.text
    pub further_on : from.at < now.at
    pub few : v < 10000000000000
    pub same : number_parse least (drop from.at t) ≡ further v (drop now.at t)

  pub number_first : (d : ℕ) → digit_if (is_first least) (drop from.at t) ≡ Some d → (next : Reader) → next.text ≡ from.text → next.at ≡ from.at + 1
      → Digits d next
  number_first d e next same_text place =
      let n = next_digit (is_first least) (drop from.at t) d e in
      let rest : drop next.at t ≡ n.rest = ap (λ (k : ℕ). drop k t) place ∙ sym (drop-drop 1 from.at t) ∙ ap (drop 1) n.is in
      record {
        same_text = same_text;
        further_on = omega (arith, place);
        few = omega (arith, n.value, first_high least n.byte n.passed);
        same = number_begins least n.byte d (drop from.at t) n.rest (drop next.at t) n.is n.passed n.value rest;
      }

  module _ (v : ℕ) (now : Reader) (l : Digits v now) where
    here : {A : Type 0} (f : List ℕ → A) (a : A) → f (drop now.at now.text.now) ≡ a → f (drop now.at t) ≡ a
    here f a e = ap (λ (s : List ℕ). f (drop now.at s)) (sym (same_bytes l.same_text)) ∙ e

    pub number_done : digit_if (goes_on v) (drop now.at now.text.now) ≡ None → Scans (number least) from (Ok v) now
    number_done e = record {
      same_text = l.same_text;
      parsed = record {
        finds = l.same ∙ number_ends v (drop now.at t) (here (digit_if (goes_on v)) None e);
        from = omega (arith, l.further_on);
        to = omega (arith, now.inside, ap length (same_bytes l.same_text));
      };
    }

    pub number_goes : (d : ℕ) → digit_if (goes_on v) (drop now.at now.text.now) ≡ Some d → (next : Reader) → next.text ≡ now.text
        → next.at ≡ now.at + 1
        → Digits (v * 10 + d) next
    number_goes d e next same_text place =
        let n = next_digit (goes_on v) (drop now.at t) d (here (digit_if (goes_on v)) (Some d) e) in
        let g = goes v n.byte n.passed in
        let rest : drop next.at t ≡ n.rest = ap (λ (k : ℕ). drop k t) place ∙ sym (drop-drop 1 now.at t) ∙ ap (drop 1) n.is in
        record {
          same_text = same_text ∙ l.same_text;
          further_on = omega (arith, l.further_on, place);
          few = omega (arith, n.value, g.few, g.high, g.low);
          same = l.same ∙ number_further v n.byte d (drop now.at t) n.rest (drop next.at t) n.is n.passed n.value rest;
        }
