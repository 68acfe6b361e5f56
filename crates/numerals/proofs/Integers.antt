-- A signed number in a reader's text. Assumes nothing.
use Prim.Native.Nat.{ℕ, ◌+◌}
use mathlib.Core.Bool.{true, false}
use mathlib.Core.List.{List}
use mathlib.Core.Logic.{inl, inr}
use mathlib.Core.Path.{◌≡◌, ◌∙◌, subst}
use lib.ListN.{drop}
use Rattle.std.specs.Prelude.{Result, Ok, Err}
use Rattle.forms.specs.Digits.{signed_digits}
use Rattle.forms.specs.Tests.{starts_with}
use Rattle.forms.specs.Number.{number}
use Rattle.forms.specs.Signed.{minus_or_none, integer, Integer, signed}
use Rattle.forms.proofs.Place.{gives_left, gives_right}
use Rattle.scanner.specs.declared.Reader.{Reader}
use Rattle.scanner.specs.declared.Stop.{Stop}
use Rattle.scanner.specs.Scans.{Parsed, Scans, ok_as}
use Rattle.scanner.proofs.Scanned.{same_bytes, scans_via}

module _ (from : Reader) where
  abbrev t : List ℕ
  t = from.text.now

  -- `-`, and a number from 1 on after it
  pub signed_minus : starts_with 45 (drop from.at t) ≡ true → (mid : Reader) → mid.text ≡ from.text → mid.at ≡ from.at + 1
      → (x : Result ℕ Stop) (next : Reader) → Scans (number 1) mid x next
      → Scans signed from (ok_as integer (ok_as (λ n. inl n) x)) next
  signed_minus h mid same_text place x next n =
      scans_via minus_or_none integer Integer signed_digits from (ok_as (λ n. inl n) x) next
      (record {
        same_text = n.same_text ∙ same_text;
        parsed = go x
            (subst (λ (i : ℕ). Parsed (number 1) t i x next.at) place
            (subst (λ (s : List ℕ). Parsed (number 1) s mid.at x next.at) (same_bytes same_text) n.parsed));
      })
    where
      go : (x : Result ℕ Stop) → Parsed (number 1) t (from.at + 1) x next.at → Parsed minus_or_none t from.at (ok_as (λ n. inl n) x) next.at
      go (Ok n) g = gives_left 45 (number 1) (number 0) t from.at n next.at false h g
      go (Err stop) g = (gives_left 45 (number 1) (number 0) t from.at 0 stop.at true h g.0, g.1)

  -- a number without a sign
  pub signed_plain : starts_with 45 (drop from.at t) ≡ false → (x : Result ℕ Stop) (next : Reader) → Scans (number 0) from x next
      → Scans signed from (ok_as integer (ok_as (λ n. inr n) x)) next
  signed_plain h x next n =
      scans_via minus_or_none integer Integer signed_digits from (ok_as (λ n. inr n) x) next
      (record { same_text = n.same_text; parsed = go x n.parsed })
    where
      go : (x : Result ℕ Stop) → Parsed (number 0) t from.at x next.at → Parsed minus_or_none t from.at (ok_as (λ n. inr n) x) next.at
      go (Ok n) g = gives_right 45 (number 1) (number 0) t from.at n next.at false h g
      go (Err stop) g = (gives_right 45 (number 1) (number 0) t from.at 0 stop.at true h g.0, g.1)
