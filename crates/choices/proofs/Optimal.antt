-- A point of a choice's box that has the certificate is the best of the box. Assumes nothing.
use Prim.Native.Nat.{ℕ, suc, ◌+◌, ◌*◌, ◌-◌, ◌≤◌, ◌<◌}
use native.Mathlib.Decide.{dec_lt}
use native.Mathlib.Nat.{mul-le-mul_left, mul-le-mul_right}
use native.Mathlib.Omega.{arith}
use mathlib.Core.List.{List, [], ◌∷◌}
use mathlib.Core.Logic.{◌⊎◌, inl, inr, ⊎_elim}
use mathlib.Core.Path.{◌≡◌, refl, sym, ap, ap₂}
use Rattle.book.specs.declared.Segment.{Segment}
use Rattle.supply.specs.Allocation.{bought}
use Rattle.divisions.proofs.Signed.{order}
use Rattle.choices.specs.Choice.{width}
use Rattle.choices.proofs.Fill.{cost, Box, Less, Wins}
use Rattle.choices.proofs.Certificate.{Under, Open, Cert}

under_up : (u v : ℕ) (c : List Segment) (xs : List ℕ) → u ≤ v → Under u c xs → Under v c xs
under_up u v [] xs h a = tt
under_up u v (s ∷ c) [] h a = tt
under_up u v (s ∷ c) (x ∷ xs) h a = (λ k. omega (arith, a.0 k), under_up u v c xs h a.1)

open_down : (u v : ℕ) (c : List Segment) (xs : List ℕ) → u ≤ v → Open v c xs → Open u c xs
open_down u v [] xs h a = tt
open_down u v (s ∷ c) [] h a = tt
open_down u v (s ∷ c) (x ∷ xs) h a = (λ k. omega (arith, a.0 k), open_down u v c xs h a.1)

-- A certified point has a unit price at which what is taken is no dearer, and what could still be taken no cheaper.

abbrev Level : List Segment → List ℕ → Type 0
Level c xs = (l : ℕ) × Under l c xs × Open l c xs

-- with one more bidder: by whether it is above its start, whether it is below its end, and how its unit price compares
module _ (s : Segment) (c : List Segment) (x : ℕ) (xs : List ℕ) (z : Cert (s ∷ c) (x ∷ xs)) where
  abbrev u : ℕ
  u = s.unit.0

  level_end : 0 < x → (x < width s → ⊥) → Level c xs → Level (s ∷ c) (x ∷ xs)
  level_end a b (l, p, q) =
      ⊎_elim (λ k. (u, (λ _. omega arith, under_up l u c xs (omega arith) p), (λ m. absurd (b m), open_down u (suc u) c xs (omega arith) (z.1 a))))
      (λ k. (l, (λ _. ⊎_elim (λ m. omega arith) (λ m. omega arith) k, p), (λ m. absurd (b m), q)))
      (order l u)

  level_start : (0 < x → ⊥) → x < width s → Level c xs → Level (s ∷ c) (x ∷ xs)
  level_start a b (l, p, q) =
      ⊎_elim (λ k. (l, (λ m. absurd (a m), p), (λ _. omega arith, q)))
      (λ k. let n : u ≤ l = ⊎_elim (λ m. omega arith) (λ m. omega arith) k in (u, (λ m. absurd (a m), z.0 b), (λ _. omega arith, open_down u l c xs n q)))
      (order l u)

  level_next : Dec (0 < x) → Dec (x < width s) → Level c xs → Level (s ∷ c) (x ∷ xs)
  level_next (no a) (no b) (l, p, q) = (l, (λ k. absurd (a k), p), (λ k. absurd (b k), q))
  level_next (yes a) (yes b) t = (u, (λ k. omega arith, z.0 b), (λ k. omega arith, open_down u (suc u) c xs (omega arith) (z.1 a)))
  level_next (yes a) (no b) t = level_end a b t
  level_next (no a) (yes b) t = level_start a b t

level : (c : List Segment) (xs : List ℕ) → Cert c xs → Level c xs
level [] xs h = (0, tt, tt)
level (s ∷ c) [] h = (0, tt, tt)
level (s ∷ c) (x ∷ xs) h = level_next s c x xs h (dec_lt 0 x) (dec_lt x (width s)) (level c xs h.2)

-- At that unit price no other point of the box is cheaper.

exchange : (u l x y : ℕ) → (y < x → u ≤ l) → (x < y → l ≤ u) → u * x + l * y ≤ u * y + l * x
exchange u l x y f g = ⊎_elim (λ h. up x y u l h (g h)) (⊎_elim (λ h. rw h (omega arith)) (λ h. omega (arith, up y x l u h (f h)))) (order x y)
  where
    up : (x y u l : ℕ) → x < y → l ≤ u → u * x + l * y ≤ u * y + l * x
    up x y u l h k = let p : y ≡ x + (y - x) = omega arith in rw p (omega (arith, mul-le-mul_right (y - x) k))

no_cheaper : (l : ℕ) (c : List Segment) (xs ys : List ℕ) → Under l c xs → Open l c xs → Box c xs → Box c ys
    → cost c xs + l * bought ys ≤ cost c ys + l * bought xs
unfolding bought
no_cheaper l [] [] (y ∷ ys) a b p q = elim q [ ]
no_cheaper l [] (x ∷ xs) ys a b p q = elim p [ ]
no_cheaper l (s ∷ c) [] ys a b p q = elim p [ ]
no_cheaper l (s ∷ c) (x ∷ xs) [] a b p q = elim q [ ]
no_cheaper l [] [] [] a b p q = omega arith
no_cheaper l (s ∷ c) (x ∷ xs) (y ∷ ys) a b p q =
    omega (arith, exchange s.unit.0 l x y (λ h. a.0 (omega arith)) (λ h. b.0 (omega arith)), no_cheaper l c xs ys a.1 b.1 p.1 q.1)

-- Of the points that cost as much, it gives most to the first bidder at whom the two differ.

exact : (u l x y : ℕ) → y < x → u ≤ l → u * x + l * y ≡ u * y + l * x → u ≡ l
exact u l x y h k e = ⊎_elim (λ m. absurd (strict m)) (⊎_elim (λ m. m) (λ m. absurd (omega arith))) (order u l)
  where
    strict : u < l → ⊥
    strict m =
        let p : x ≡ y + (x - y) = omega arith in
        let e' : u * (y + (x - y)) + l * y ≡ u * y + l * (y + (x - y)) = rw p at e in
        omega (arith, mul-le-mul_right (x - y) m)

tied : (l : ℕ) (c : List Segment) (xs ys : List ℕ) → Cert c xs → Under l c xs → Open l c xs → Box c xs → Box c ys
    → cost c xs + l * bought ys ≡ cost c ys + l * bought xs → bought ys ≤ bought xs → (ys ≡ xs) ⊎ Less ys xs
unfolding bought
tied l [] [] (y ∷ ys) z a b p q e t = elim q [ ]
tied l [] (x ∷ xs) ys z a b p q e t = elim p [ ]
tied l (s ∷ c) [] ys z a b p q e t = elim p [ ]
tied l (s ∷ c) (x ∷ xs) [] z a b p q e t = elim q [ ]
tied l [] [] [] z a b p q e t = inl refl
tied l (s ∷ c) (x ∷ xs) (y ∷ ys) z a b p q e t = go (order y x) (λ k. tied l c xs ys z.2 a.1 b.1 p.1 q.1 (omega (arith, head, rest)) k)
  where
    u : ℕ
    u = s.unit.0

    head : u * x + l * y ≤ u * y + l * x
    head = exchange u l x y (λ h. a.0 (omega arith)) (λ h. b.0 (omega arith))

    rest : cost c xs + l * bought ys ≤ cost c ys + l * bought xs
    rest = no_cheaper l c xs ys a.1 b.1 p.1 q.1

    -- what could still be taken of the rest costs more, so the rest gives no less
    full : y < x → bought ys ≤ bought xs
    full m =
        let v : u ≡ l = exact u l x y m (a.0 (omega arith)) (omega (arith, head, rest)) in
        let o : Open (suc u) c xs = z.1 (omega arith) in
        omega (arith, head, rest, no_cheaper (suc l) c xs ys (under_up l (suc l) c xs (omega arith) a.1) (rw v at o) p.1 q.1)

    go : (y < x) ⊎ ((y ≡ x) ⊎ (x < y)) → (bought ys ≤ bought xs → (ys ≡ xs) ⊎ Less ys xs) → (y ∷ ys ≡ x ∷ xs) ⊎ Less (y ∷ ys) (x ∷ xs)
    go (inl m) later = ⊎_elim (λ k. inr (inr (k, m))) (λ k. inr (inl k)) (later (full m))
    go (inr (inl m)) later = ⊎_elim (λ k. inl (ap₂ ◌∷◌ m k)) (λ k. inr (inl k)) (later (omega arith))
    go (inr (inr m)) later = ⊎_elim (λ k. absurd (omega (arith, ap bought k))) (λ k. inr (inl k)) (later (omega arith))

-- So of the points that take no less, none is better: what they take more costs at least nothing.

pub cert_wins : (c : List Segment) (xs ys : List ℕ) → Cert c xs → Box c xs → Box c ys → bought xs ≤ bought ys → Wins c xs ys
cert_wins c xs ys z p q t =
    let (l, a, b) = level c xs z in
    let over : l * bought xs ≤ l * bought ys = mul-le-mul_left l t in
    ⊎_elim (λ k. inl k)
    (⊎_elim (λ k. inr (k, same l a b k)) (λ k. absurd (omega (arith, no_cheaper l c xs ys a b p q))))
    (order (cost c xs) (cost c ys))
  where
    same : (l : ℕ) → Under l c xs → Open l c xs → cost c xs ≡ cost c ys
        → (bought xs < bought ys) ⊎ ((bought xs ≡ bought ys) × ((ys ≡ xs) ⊎ Less ys xs))
    same l a b k =
        ⊎_elim (λ m. inl m)
        (⊎_elim (λ m. inr (m, tied l c xs ys z a b p q (ap₂ ◌+◌ k (ap (λ (n : ℕ). l * n) (sym m))) (omega arith))) (λ m. absurd (omega arith)))
        (order (bought xs) (bought ys))
