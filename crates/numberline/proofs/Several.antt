-- Numbers read one after the other. Assumes nothing.
use Prim.Native.Nat.{ℕ, zero, suc, ◌+◌, ◌-◌, ◌≤◌, ◌<◌}
use native.Mathlib.Omega.{arith}
use mathlib.Core.Bool.{Bool, true, false}
use mathlib.Core.List.{List}
use mathlib.Core.Path.{◌≡◌, refl, sym, ap₂, subst}
use borrow.Author.Tests.{leb-true, leb-false}
use lib.Dec.{leb}
use lib.ListN.{length, set}
use lib.Seq.{get_or-set_same}
use Rattle.std.specs.Prelude.{Result, Ok, Err}
use Rattle.forms.specs.Bytes.{ascii}
use Rattle.forms.specs.Form.{Form}
use Rattle.forms.specs.Word.{word}
use Rattle.forms.specs.Number.{number}
use Rattle.forms.specs.Combined.{sequence}
use Rattle.forms.specs.Spaced.{Numbers, numbers, numbers_in}
use Rattle.forms.proofs.Form.{Laws}
use Rattle.forms.proofs.Word.{word_laws}
use Rattle.forms.proofs.Sequence.{sequence_laws}
use Rattle.forms.proofs.Spaced.{numbers_end, numbers_laws, numbers_kept}
use Rattle.scanner.specs.declared.Reader.{Reader}
use Rattle.scanner.specs.declared.Stop.{Stop}
use Rattle.scanner.specs.Scans.{Scans, ok_as}
use Rattle.scanner.proofs.Scanned.{scans_first, scans_then, scans_via}

module _ (n : ℕ) (from : Reader) where
  abbrev space : Form (Unit {0})
  space = word (ascii " ")

  -- without the space
  abbrev pub pair : (Numbers n × Unit {0}) × ℕ → Numbers (suc n)
  pair y = (y.0.0, y.1)

  abbrev both : Form (Numbers n × Unit {0})
  both = sequence (numbers n) space

  both_laws : Laws both
  both_laws = sequence_laws (numbers_laws n) (word_laws (ascii " ")) (λ b r v h. numbers_end n 32 (λ l k. omega arith))

  -- with a number more
  more : (x : Result ((Numbers n × Unit {0}) × ℕ) Stop) (next : Reader) → Scans (sequence both (number 0)) from x next
      → Scans (numbers (suc n)) from (ok_as pair x) next
  more x next s = scans_via (sequence both (number 0)) pair (numbers (suc n)).Valid (numbers (suc n)).text from x next s

  pub numbers_stop : (stop : Stop) (next : Reader) → Scans (numbers n) from (Err stop) next → Scans (numbers (suc n)) from (Err stop) next
  numbers_stop stop next x =
      more (Err stop) next (scans_first both_laws (number 0) from next stop (scans_first (numbers_laws n) space from next stop x))

  module _ (a : Numbers n) (mid : Reader) (x : Scans (numbers n) from (Ok a) mid) where
    pub space_stop : (stop : Stop) (next : Reader) → Scans space mid (Err stop) next → Scans (numbers (suc n)) from (Err stop) next
    space_stop stop next y =
        more (Err stop) next
        (scans_first both_laws (number 0) from next stop (scans_then (numbers_laws n) space from mid a x (Err stop) next y))

    pub number_next : (between : Reader) → Scans space mid (Ok tt) between → (y : Result ℕ Stop) (next : Reader) → Scans (number 0) between y next
        → Scans (numbers (suc n)) from (ok_as (λ b. (a, b)) y) next
    number_next between s y next z = go y z
      where
        then : (y : Result ℕ Stop) → Scans (number 0) between y next → Scans (sequence both (number 0)) from (ok_as (λ b. ((a, tt), b)) y) next
        then y z =
            scans_then both_laws (number 0) from between (a, tt) (scans_then (numbers_laws n) space from mid a x (Ok tt) between s) y next z

        go : (y : Result ℕ Stop) → Scans (number 0) between y next → Scans (numbers (suc n)) from (ok_as (λ b. (a, b)) y) next
        go (Ok b) z = more (Ok ((a, tt), b)) next (then (Ok b) z)
        go (Err stop) z = more (Err stop) next (then (Err stop) z)

-- where the first of them break off, all do
pub stops_all : (from : Reader) (stop : Stop) (next : Reader) (m n : ℕ) → n ≤ m → Scans (numbers n) from (Err stop) next
    → Scans (numbers m) from (Err stop) next
stops_all from stop next zero n h x =
    let z : n ≡ zero = omega arith in subst (λ (k : ℕ). Scans (numbers k) from (Err stop) next) z x
stops_all from stop next (suc m) n h x = go (leb n m) refl (λ l. numbers_stop m from stop next (stops_all from stop next m n l x))
  where
    go : (b : Bool) → leb n m ≡ b → (n ≤ m → Scans (numbers (suc m)) from (Err stop) next) → Scans (numbers (suc m)) from (Err stop) next
    go true q f = f (leb-true n m q)
    go false q f =
        let l = leb-false n m q in
        let z : n ≡ suc m = omega arith in
        subst (λ (k : ℕ). Scans (numbers k) from (Err stop) next) z x

-- the first i numbers of an array have been read
pub record Several (from : Reader) (values : List ℕ) (now : Reader) (i : ℕ) : Type 0 where
  pub some : 1 ≤ i
  pub read : Scans (numbers (i - 1)) from (Ok (numbers_in (i - 1) values)) now

module _ (from : Reader) (values : List ℕ) (now : Reader) (i : ℕ) (so_far : Several from values now i) where
  -- one more
  pub several_next : (between : Reader) → Scans (word (ascii " ")) now (Ok tt) between → (v : ℕ) (next : Reader)
      → Scans (number 0) between (Ok v) next → i < length values → Several from (set values i v) next (i + 1)
  several_next between s v next z room =
      let k : ℕ = i - 1 in
      let one : suc k ≡ i = omega (arith, so_far.some) in
      let same : i ≡ i + 1 - 1 = omega arith in
      let kept : (numbers_in k values, v) ≡ numbers_in (suc k) (set values (suc k) v) =
      ap₂ (λ (a : Numbers k) (b : ℕ). (a, b)) (sym (numbers_kept k (suc k) v values (omega arith)))
      (sym (get_or-set_same values (suc k) v 0 (omega arith))) in
      let read : Scans (numbers (suc k)) from (Ok (numbers_in (suc k) (set values (suc k) v))) next =
      subst (λ (x : Numbers (suc k)). Scans (numbers (suc k)) from (Ok x) next) kept
      (number_next k from (numbers_in k values) now so_far.read between s (Ok v) next z) in
      record {
        some = omega arith;
        read = subst (λ (j : ℕ). Scans (numbers j) from (Ok (numbers_in j (set values i v))) next) same
            (subst (λ (j : ℕ). Scans (numbers j) from (Ok (numbers_in j (set values j v))) next) one read);
      }

  -- and all
  pub several_done : (m : ℕ) → m ≡ i → Scans (numbers (m - 1)) from (Ok (numbers_in (m - 1) values)) now
  several_done m all = rw all so_far.read

  module _ (stop : Stop) (next : Reader) (m : ℕ) (more : i < m) where
    stops_one_on : Scans (numbers (suc (i - 1))) from (Err stop) next → Scans (numbers (m - 1)) from (Err stop) next
    stops_one_on x = stops_all from stop next (m - 1) (suc (i - 1)) (omega (arith, so_far.some)) x

    -- the space is missing, or a number after it
    pub several_no_space : Scans (word (ascii " ")) now (Err stop) next → Scans (numbers (m - 1)) from (Err stop) next
    several_no_space x = stops_one_on (space_stop (i - 1) from (numbers_in (i - 1) values) now so_far.read stop next x)

    pub several_no_number : (between : Reader) → Scans (word (ascii " ")) now (Ok tt) between → Scans (number 0) between (Err stop) next
        → Scans (numbers (m - 1)) from (Err stop) next
    several_no_number between s z =
        stops_one_on (number_next (i - 1) from (numbers_in (i - 1) values) now so_far.read between s (Err stop) next z)
