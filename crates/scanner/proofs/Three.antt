-- Three forms parsed one after the other, and said of one value. Assumes nothing.
use Prim.Native.Nat.{ℕ}
use mathlib.Core.List.{List}
use Rattle.std.specs.Prelude.{Result, Ok, Err}
use Rattle.forms.specs.Form.{Form}
use Rattle.forms.specs.Combined.{sequence, via}
use Rattle.forms.proofs.Form.{Laws}
use Rattle.scanner.specs.declared.Reader.{Reader}
use Rattle.scanner.specs.declared.Stop.{Stop}
use Rattle.scanner.specs.Scans.{Scans, ok_as}
use Rattle.scanner.proofs.Scanned.{scans_first, scans_then, scans_via}

module _ {A B C D : Type 0} {p : Form A} {q : Form B} (P : Laws p) (Q : Laws q) (r : Form C) (f : A × (B × C) → D) (Valid : D → Type 0) (text : D → List ℕ)
    (from : Reader) where
  abbrev three : Form (A × (B × C))
  three = sequence p (sequence q r)

  said : (x : Result (A × (B × C)) Stop) (next : Reader) → Scans three from x next → Scans (via three f Valid text) from (ok_as f x) next
  said x next s = scans_via three f Valid text from x next s

  module _ (a : A) (one : Reader) (s : Scans p from (Ok a) one) where
    pub stops_at_second : (stop : Stop) (next : Reader) → Scans q one (Err stop) next → Scans (via three f Valid text) from (Err stop) next
    stops_at_second stop next x =
        said (Err stop) next (scans_then P (sequence q r) from one a s (Err stop) next (scans_first Q r one next stop x))

    module _ (b : B) (two : Reader) (x : Scans q one (Ok b) two) where
      pub stops_at_third : (stop : Stop) (next : Reader) → Scans r two (Err stop) next → Scans (via three f Valid text) from (Err stop) next
      stops_at_third stop next y =
          said (Err stop) next (scans_then P (sequence q r) from one a s (Err stop) next (scans_then Q r one two b x (Err stop) next y))

      pub all_three : (c : C) (next : Reader) → Scans r two (Ok c) next → Scans (via three f Valid text) from (Ok (f (a, (b, c)))) next
      all_three c next y =
          said (Ok (a, (b, c))) next (scans_then P (sequence q r) from one a s (Ok (b, c)) next (scans_then Q r one two b x (Ok c) next y))
