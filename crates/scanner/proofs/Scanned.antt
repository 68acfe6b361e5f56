-- What was parsed one after the other, and said of another value. Assumes nothing.
use Prim.Native.Nat.{ℕ}
use mathlib.Core.List.{List}
use mathlib.Core.Path.{◌≡◌, ap, ◌∙◌, subst}
use Rattle.std.specs.Prelude.{Result, Ok, Err, IsErrAnd}
use Rattle.std.specs.Borrow.{Bor}
use Rattle.std.proofs.lemmas.Result.{err_from_is_err_and}
use Rattle.forms.specs.Form.{Form}
use Rattle.forms.specs.Combined.{sequence, via}
use Rattle.forms.proofs.Form.{Laws}
use Rattle.forms.proofs.Place.{found_both, stops_first, stops_second, found_via, stops_via}
use Rattle.scanner.specs.declared.Reader.{Reader}
use Rattle.scanner.specs.declared.Stop.{Stop}
use Rattle.scanner.specs.Scans.{Parsed, Scans, ok_as, ScansAs}

-- the very slice has the same bytes
pub same_bytes : {a b : Bor (List ℕ)} → a ≡ b → a.now ≡ b.now
same_bytes e = ap (λ (s : Bor (List ℕ)). s.now) e

module _ {A B : Type 0} {p : Form A} (P : Laws p) (q : Form B) (from mid : Reader) where
  -- the first stopped, and so both did
  pub scans_first : (stop : Stop) → Scans p from (Err stop) mid → Scans (sequence p q) from (Err stop) mid
  scans_first stop x = record { same_text = x.same_text; parsed = (stops_first P q from.text.now x.parsed.0, x.parsed.1) }

  -- the second went on where the first ended
  pub scans_then : (a : A) → Scans p from (Ok a) mid → (y : Result B Stop) (next : Reader) → Scans q mid y next
      → Scans (sequence p q) from (ok_as (λ b. (a, b)) y) next
  scans_then a x y next z = record {
    same_text = z.same_text ∙ x.same_text;
    parsed = go y (subst (λ (t : List ℕ). Parsed q t mid.at y next.at) (same_bytes x.same_text) z.parsed);
  }
    where
      go : (y : Result B Stop) → Parsed q from.text.now mid.at y next.at
          → Parsed (sequence p q) from.text.now from.at (ok_as (λ b. (a, b)) y) next.at
      go (Ok b) z = found_both P q from.text.now x.parsed z
      go (Err stop) z = (stops_second P q from.text.now x.parsed z.0, z.1)

-- the same texts, said of other values
pub scans_via : {A B : Type 0} (p : Form A) (f : A → B) (Valid : B → Type 0) (text : B → List ℕ) (from : Reader) (x : Result A Stop) (next : Reader)
    → Scans p from x next
    → Scans (via p f Valid text) from (ok_as f x) next
scans_via {A} {B} p f Valid text from x next z = record { same_text = z.same_text; parsed = go x z.parsed }
  where
    go : (x : Result A Stop) → Parsed p from.text.now from.at x next.at → Parsed (via p f Valid text) from.text.now from.at (ok_as f x) next.at
    go (Ok a) z = found_via p f Valid text from.text.now z
    go (Err stop) z = (stops_via p f Valid text from.text.now z.0, z.1)

-- what a `?` gives on is the Stop that it met
module _ {A : Type 0} (p : Form A) (from next : Reader) (stop : Stop) where
  pub scans_stop : (r : Result A Stop) → IsErrAnd r (λ e. e ≡ stop) → Scans p from (Err stop) next → Scans p from r next
  scans_stop r same s = let given = err_from_is_err_and r same in rw (given.1, given.2) s

  pub scans_stop_as : {R : Type 0} (keep : A → R) (r : Result R Stop) → IsErrAnd r (λ e. e ≡ stop) → Scans p from (Err stop) next → ScansAs p keep from r next
  scans_stop_as keep r same s = let given = err_from_is_err_and r same in rw (given.1, given.2) s

  pub scans_stop_ok : {B : Type 0} (f : B → A) (r : Result B Stop) → IsErrAnd r (λ e. e ≡ stop) → Scans p from (Err stop) next → Scans p from (ok_as f r) next
  scans_stop_ok f r same s = let given = err_from_is_err_and r same in rw (given.1, given.2) s
