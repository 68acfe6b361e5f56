-- A word compared with a text byte by byte. Assumes nothing.
use Prim.Native.Nat.{ℕ, suc, ◌+◌, ◌-◌, ◌≤◌, ◌<◌}
use native.Mathlib.Numerals.{add-one}
use native.Mathlib.Omega.{arith}
use mathlib.Core.Bool.{true, false, true≢false}
use mathlib.Core.List.{List, [], ◌∷◌}
use mathlib.Core.Path.{◌≡◌, refl, sym, ap, ap₂, ◌∙◌}
use lib.ListN.{length, drop, get_or, drop_of_length-le}
use lib.Seq.{drop-cons, drop-drop}
use Rattle.std.specs.Prelude.{Ok, Err}
use Rattle.forms.specs.Form.{Parse, parsed, stopped, after}
use Rattle.forms.specs.Tests.{starts_with}
use Rattle.forms.specs.Word.{word_parse, word}
use Rattle.scanner.specs.declared.Reader.{Reader}
use Rattle.scanner.specs.Scans.{Scans}
use Rattle.scanner.proofs.Scanned.{same_bytes}

abbrev on : ℕ → Parse (Unit {0}) → Parse (Unit {0})
on k = after k (λ x. x)

on_none : (y : Parse (Unit {0})) → y ≡ on 0 y
on_none (parsed a r) = refl
on_none (stopped n) = let z : n ≡ 0 + n = omega arith in ap (λ (k : ℕ). stopped k) z

on_on : (k : ℕ) (y : Parse (Unit {0})) → on k (on 1 y) ≡ on (k + 1) y
on_on k (parsed a r) = refl
on_on k (stopped n) = let z : k + (1 + n) ≡ k + 1 + n = omega arith in ap (λ (j : ℕ). stopped j) z

module _ (w : List ℕ) (from : Reader) where
  abbrev t : List ℕ
  t = from.text.now

  -- the first i bytes of w stand in the text from the reader's first place on
  pub record Along (i : ℕ) (now : Reader) : Type 0 where
    pub same_text : now.text ≡ from.text
    pub place : now.at ≡ from.at + i
    pub in_word : i ≤ length w
    pub same : word_parse w (drop from.at t) ≡ on i (word_parse (drop i w) (drop now.at t))

  pub along_start : Along 0 from
  along_start = record { same_text = refl; place = omega arith; in_word = omega arith; same = on_none (word_parse w (drop from.at t)) }

  module _ (i : ℕ) (now : Reader) (l : Along i now) where
    within : now.at ≤ length t
    within = omega (arith, now.inside, ap length (same_bytes l.same_text))

    -- the word has been compared
    pub along_done : length w ≤ i → Scans (word w) from (Ok tt) now
    unfolding word_parse
    along_done h = record {
      same_text = l.same_text;
      parsed = record {
        finds = l.same ∙ ap (λ (v : List ℕ). on i (word_parse v (drop now.at t))) (drop_of_length-le w h);
        from = omega (arith, l.place);
        to = within;
      };
    }

    module _ (more : i < length w) where
      here : drop i w ≡ get_or w i 0 ∷ drop (suc i) w
      here = drop-cons w i 0 more

      -- another byte stands there, or none
      pub along_stop : starts_with (get_or w i 0) (drop now.at now.text.now) ≡ false → Scans (word w) from (Err (record { at = now.at })) now
      unfolding word_parse
      along_stop e = record {
        same_text = l.same_text;
        parsed =
            let z : i + 0 ≡ now.at - from.at = omega (arith, l.place) in (
              record {
                finds = l.same ∙ ap (λ (v : List ℕ). on i (word_parse v (drop now.at t))) here
                    ∙ ap (on i) (go (drop now.at t) (ap (λ (s : List ℕ). starts_with (get_or w i 0) (drop now.at s)) (sym (same_bytes l.same_text)) ∙ e))
                    ∙ ap (λ (k : ℕ). stopped k) z;
                from = omega (arith, l.place);
                to = within;
              },
              refl,
            );
      }
        where
          go : (s : List ℕ) → starts_with (get_or w i 0) s ≡ false → word_parse (get_or w i 0 ∷ drop (suc i) w) s ≡ stopped 0
          go [] q = refl
          go (b ∷ s) q = rw q

      -- the same byte
      same_byte : (s : List ℕ) → starts_with (get_or w i 0) s ≡ true
          → word_parse (get_or w i 0 ∷ drop (suc i) w) s ≡ on 1 (word_parse (drop (suc i) w) (drop 1 s))
      unfolding word_parse
      same_byte [] q = absurd (true≢false (sym q))
      same_byte (b ∷ s) q = rw q

      pub along_next : (next : Reader) → next.text ≡ now.text → next.at ≡ now.at + 1
          → starts_with (get_or w i 0) (drop now.at now.text.now) ≡ true → Along (i + 1) next
      along_next next same_text further e = record {
        same_text = same_text ∙ l.same_text;
        place = omega (arith, l.place);
        in_word = omega arith;
        same =
            l.same
            ∙ ap (λ (v : List ℕ). on i (word_parse v (drop now.at t))) here
            ∙ ap (on i) (same_byte (drop now.at t) (ap (λ (s : List ℕ). starts_with (get_or w i 0) (drop now.at s)) (sym (same_bytes l.same_text)) ∙ e))
            ∙ on_on i (word_parse (drop (suc i) w) (drop 1 (drop now.at t)))
            ∙ ap₂ (λ (j : ℕ) (s : List ℕ). on (i + 1) (word_parse (drop j w) s)) (sym (add-one i))
            (drop-drop 1 now.at t ∙ ap (λ (k : ℕ). drop k t) (sym further));
      }
