-- A list brought to a length: its entries, and one more. Assumes nothing.
use Prim.Native.Nat.{ℕ, zero, suc, ◌+◌, ◌-◌, ◌≤◌, ◌<◌}
use native.Mathlib.Omega.{arith}
use mathlib.Core.List.{List, [], ◌∷◌, ◌++◌}
use mathlib.Core.Path.{◌≡◌, refl, sym, ap, ◌∙◌}
use lib.ListN.{length, get_or, set, take, replicate, length-append, length-replicate, replicate-append-replicate, get_or-eq_default}
use lib.Seq.{get_or-take, take_at, take-take, take-append-le, take-append-add, take-append_seam, set-append_seam, append_snoc, length-take-le}
use Rattle.lists.specs.Padded.{padded}

module _ {A : Type 0} where
  take_replicate : (k m : ℕ) (zero-entry : A) → take k (replicate (k + m) zero-entry) ≡ replicate k zero-entry
  take_replicate k m zero-entry = rw (← (replicate-append-replicate k m zero-entry)) (take_at _ _ k (length-replicate k zero-entry))

  -- with k places left
  padded_split : (n k : ℕ) (zero-entry : A) (xs : List A) → n ≡ length xs + k → padded n zero-entry xs ≡ xs ++ replicate k zero-entry
  padded_split n k zero-entry xs e =
      let f : n ≡ k + length xs = omega arith in
      ap (λ (m : ℕ). take m (xs ++ replicate n zero-entry)) e
      ∙ take-append-add xs (replicate n zero-entry) k
      ∙ ap (λ (r : List A). xs ++ r) (rw f (take_replicate k (length xs) zero-entry))

  -- always n
  pub length_padded : (n : ℕ) (zero-entry : A) (xs : List A) → length (padded n zero-entry xs) ≡ n
  length_padded n zero-entry xs = length-take-le n (xs ++ replicate n zero-entry) (simp (length-append, length-replicate) (omega arith))

  -- one more entry: stored in the first zero-entry, or nowhere where the record is full
  pub padded_next : (n : ℕ) (zero-entry : A) (xs : List A) (x : A) → length xs < n → set (padded n zero-entry xs) (length xs) x ≡ padded n zero-entry (xs ++ x ∷ [])
  padded_next n zero-entry xs x h =
      let k = n - suc (length xs) in
      let here : n ≡ length xs + suc k = omega arith in
      let next : n ≡ length (xs ++ x ∷ []) + k = rw length-append (omega arith) in
      ap (λ (l : List A). set l (length xs) x) (padded_split n (suc k) zero-entry xs here)
      ∙ set-append_seam xs zero-entry (replicate k zero-entry) x
      ∙ sym (append_snoc xs x (replicate k zero-entry))
      ∙ sym (padded_split n k zero-entry (xs ++ x ∷ []) next)

  pub padded_full : (n : ℕ) (zero-entry : A) (xs : List A) (x : A) → n ≤ length xs → padded n zero-entry (xs ++ x ∷ []) ≡ padded n zero-entry xs
  padded_full n zero-entry xs x h =
      let more : n ≤ length (xs ++ x ∷ []) = rw length-append (omega arith) in
      take-append-le n (xs ++ x ∷ []) (replicate n zero-entry) more ∙ take-append-le n xs (x ∷ []) h ∙ sym (take-append-le n xs (replicate n zero-entry) h)

  -- within the count, the entries themselves
  pub take_padded : (n : ℕ) (zero-entry : A) (xs : List A) → length xs ≤ n → take (length xs) (padded n zero-entry xs) ≡ xs
  take_padded n zero-entry xs h = take-take (length xs) n (xs ++ replicate n zero-entry) h ∙ take-append_seam xs (replicate n zero-entry)

  pub take_count : (n count : ℕ) (zero-entry : A) (xs : List A) → count ≡ length xs → count ≤ n → take count (padded n zero-entry xs) ≡ xs
  take_count n count zero-entry xs e h = rw e (take_padded n zero-entry xs (omega arith))

  get_d_replicate : (k i : ℕ) (zero-entry : A) → get_or (replicate k zero-entry) i zero-entry ≡ zero-entry
  get_d_replicate zero i zero-entry = refl
  get_d_replicate (suc k) zero zero-entry = refl
  get_d_replicate (suc k) (suc i) zero-entry = get_d_replicate k i zero-entry

  -- at any place, the entry itself or a zero entry
  get_or_zeros : (xs : List A) (k i : ℕ) (zero-entry : A) → get_or (xs ++ replicate k zero-entry) i zero-entry ≡ get_or xs i zero-entry
  get_or_zeros [] k i zero-entry = get_d_replicate k i zero-entry
  get_or_zeros (x ∷ xs) k zero zero-entry = refl
  get_or_zeros (x ∷ xs) k (suc i) zero-entry = get_or_zeros xs k i zero-entry

  pub padded_at : (n : ℕ) (zero-entry : A) (xs : List A) (i : ℕ) → i < n → get_or (padded n zero-entry xs) i zero-entry ≡ get_or xs i zero-entry
  padded_at n zero-entry xs i h = get_or-take n (xs ++ replicate n zero-entry) i zero-entry h ∙ get_or_zeros xs n i zero-entry

  -- past the entries, zero entries
  pub padded_past : (n : ℕ) (zero-entry : A) (xs : List A) (i : ℕ) → length xs ≤ n → length xs ≤ i → get_or (padded n zero-entry xs) i zero-entry ≡ zero-entry
  padded_past n zero-entry xs i few past =
      let k = n - length xs in
      ap (λ (l : List A). get_or l i zero-entry) (padded_split n k zero-entry xs (omega arith))
      ∙ get_or_zeros xs k i zero-entry
      ∙ get_or-eq_default xs zero-entry past
