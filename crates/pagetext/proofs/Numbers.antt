-- A number that was set in a column is read from it. Assumes nothing.
use Prim.Native.Nat.{ℕ, zero, suc, ◌+◌, ◌*◌, ◌-◌, ◌≤◌}
use native.Mathlib.Omega.{arith}
use mathlib.Core.List.{List, [], ◌∷◌, ◌++◌}
use mathlib.Core.Path.{◌≡◌, refl, ap, ◌∙◌}
use borrow.Author.Tests.{ne_eqb}
use lib.ListN.{length, replicate}
use Rattle.forms.specs.Digits.{digits}
use Rattle.forms.specs.Column.{right}
use Rattle.forms.proofs.Digits.{digits_one, digits_more, by_digits, first}
use Rattle.pagetext.specs.ReadBack.{unspaced, read_on, number_in}

-- spaces are skipped, and no digit is one
spaces_skipped : (k : ℕ) (s : List ℕ) → unspaced (replicate k 32 ++ s) ≡ unspaced s
unfolding unspaced
spaces_skipped zero s = refl
spaces_skipped (suc k) s = spaces_skipped k s

pub right_skipped : (width : ℕ) (s : List ℕ) → unspaced (right width s) ≡ unspaced s
unfolding right
right_skipped width s = spaces_skipped (width - length s) s

digit_first : (s : List ℕ) (b : ℕ) (rest : List ℕ) → s ≡ b ∷ rest → 48 ≤ b → unspaced s ≡ s
unfolding unspaced
digit_first s b rest e low = rw (e, ne_eqb b 32 (omega arith))

-- digits are read one by one
read_append : (v : ℕ) (s t : List ℕ) → read_on v (s ++ t) ≡ read_on (read_on v s) t
unfolding read_on
read_append v [] t = refl
read_append v (b ∷ s) t = read_append (v * 10 + (b - 48)) s t

read_digits : (n : ℕ) → read_on 0 (digits n) ≡ n
unfolding read_on
read_digits = by_digits (λ n. read_on 0 (digits n) ≡ n)
    (λ n h. rw (digits_one n h) (omega arith))
    (λ n h before. rw (digits_more n h, read_append, before) (omega arith))

pub number_spaced : (k n : ℕ) → number_in (replicate k 32 ++ digits n) ≡ n
unfolding number_in
number_spaced k n =
    let f = first n in
    ap (read_on 0) (spaces_skipped k (digits n) ∙ digit_first (digits n) f.byte f.rest f.is f.low) ∙ read_digits n

pub number_back : (width n : ℕ) → number_in (right width (digits n)) ≡ n
unfolding right
number_back width n = number_spaced (width - length (digits n)) n
