-- The quantities of a choice with extras of its box: what they add up to, what they cost, and which give more. Assumes nothing.
use Prim.Native.Nat.{ℕ, ◌+◌, ◌*◌, ◌≤◌}
use native.Mathlib.Omega.{arith}
use mathlib.Core.Bool.{true, ◌&&◌, false≢true}
use mathlib.Core.List.{List, [], ◌∷◌, reverse_aux}
use mathlib.Core.Logic.{inl, inr}
use mathlib.Core.Path.{◌≡◌, refl, ap, ap₂, ◌∙◌}
use borrow.Author.Tests.{leb-true, le-leb}
use lib.Dec.{leb}
use lib.IntN.{ℤ, pos, negsuc, nat_abs, ◌+ℤ◌, +ℤ_assoc}
use lib.Signed.{le_z}
use Rattle.lists.specs.All.{All}
use Rattle.lists.proofs.Tests.{both_left, both_right}
use Rattle.money.specs.Price.{price_of}
use Rattle.book.specs.declared.Segment.{Segment}
use Rattle.book.specs.declared.Order.{Order}
use Rattle.book.specs.Rules.{price_on}
use Rattle.supply.specs.Allocation.{bought}
use Rattle.supply.specs.Meets.{most_of}
use Rattle.supply.specs.Sound.{SoundSegment}
use Rattle.divisions.specs.Award.{gives_more}
use Rattle.divisions.proofs.Order.{more_here, more_later}
use Rattle.choices.specs.Choice.{starts, ends, fits, width, placed, cost_with}
use Rattle.choices.proofs.Fill.{base, widths, cost, Box, Less}

-- Prices, which are not negative.

not_below : (z : ℤ) → le_z (pos 0) z ≡ true → z ≡ pos (nat_abs z)
not_below (pos n) e = refl
not_below (negsuc n) e = absurd (false≢true e)

pub price_on_lem : (s : Segment) (x : ℕ) → SoundSegment s → price_on s (s.start.0 + x) ≡ pos (base s + s.unit.0 * x)
unfolding price_of base
price_on_lem s x sound =
    let u : ℕ = s.unit.0 in
    let a : ℕ = s.start.0 in
    let f : ℤ = s.fixed.0 in
    let at : u * (a + x) ≡ u * x + u * a = omega arith in
    let sum : u * x + base s ≡ base s + u * x = omega arith in
    ap (λ (n : ℕ). pos n +ℤ f) at
    ∙ +ℤ_assoc (pos (u * x)) (pos (u * a)) f
    ∙ ap (λ (z : ℤ). pos (u * x) +ℤ z) (not_below (price_on s a) sound.not_negative)
    ∙ ap pos sum

pub cost_with_lem : (c : List Segment) (xs : List ℕ) → All SoundSegment c → cost_with c xs ≡ pos (cost c xs)
cost_with_lem [] xs sound = refl
cost_with_lem (s ∷ c) [] sound = refl
cost_with_lem (s ∷ c) (x ∷ xs) sound = ap₂ ◌+ℤ◌ (price_on_lem s x sound.0) (cost_with_lem c xs sound.1)

-- What they add up to, and which choices fit.

pub placed_bought : (c : List Segment) (xs : List ℕ) → Box c xs → bought (placed c xs) ≡ starts c + bought xs
unfolding bought
placed_bought [] (x ∷ xs) b = elim b [ ]
placed_bought (s ∷ c) [] b = elim b [ ]
placed_bought [] [] b = omega arith
placed_bought (s ∷ c) (x ∷ xs) b = omega (arith, placed_bought c xs b.1)

pub ends_widths : (c : List Segment) → All SoundSegment c → ends c ≡ starts c + widths c
unfolding width
ends_widths [] sound = refl
ends_widths (s ∷ c) sound = omega (arith, sound.0.order, ends_widths c sound.1)

both_at_most : (a b c d : ℕ) → a ≤ b → c ≤ d → (leb a b && leb c d) ≡ true
both_at_most a b c d h k = rw (le-leb a b h, le-leb c d k)

module _ (order : Order) (c : List Segment) where
  pub fits_low : fits order c ≡ true → starts c ≤ most_of order
  unfolding fits
  fits_low e = omega (arith, leb-true (starts c) _ (both_left _ _ e))

  pub fits_high : fits order c ≡ true → order.demand.0 ≤ ends c
  unfolding fits
  fits_high e = leb-true order.demand.0 (ends c) (both_right (leb (starts c) _) (leb order.demand.0 (ends c)) e)

  pub fits_when : starts c ≤ most_of order → order.demand.0 ≤ ends c → fits order c ≡ true
  unfolding fits
  fits_when h k = both_at_most (starts c) _ _ (ends c) (omega arith) (omega arith)

-- Where they differ first, in book order.

pub placed_less : (c : List Segment) (ys xs : List ℕ) → Box c ys → Box c xs → Less ys xs → Less (placed c ys) (placed c xs)
placed_less [] [] (x ∷ xs) b d h = elim d [ ]
placed_less [] (y ∷ ys) xs b d h = elim b [ ]
placed_less (s ∷ c) [] xs b d h = elim b [ ]
placed_less (s ∷ c) (y ∷ ys) [] b d h = elim d [ ]
placed_less [] [] [] b d h = h
placed_less (s ∷ c) (y ∷ ys) (x ∷ xs) b d (inl h) = inl (placed_less c ys xs b.1 d.1 h)
placed_less (s ∷ c) (y ∷ ys) (x ∷ xs) b d (inr h) = inr (ap (λ (l : List ℕ). placed c l) h.0, omega arith)

-- after the same quantities
more_after : (zs xs ys : List ℕ) → gives_more xs ys ≡ true → gives_more (reverse_aux zs xs) (reverse_aux zs ys) ≡ true
more_after [] xs ys h = h
more_after (z ∷ zs) xs ys h = more_after zs (z ∷ xs) (z ∷ ys) (more_later z z xs ys refl h)

pub less_more : (ys xs v w : List ℕ) → Less ys xs → gives_more (reverse_aux xs w) (reverse_aux ys v) ≡ true
less_more [] xs v w x' = elim x' [ ]
less_more (y ∷ ys) [] v w x3 = elim x3 [ ]
less_more (y ∷ ys) (x ∷ xs) v w (inl h) = less_more ys xs (y ∷ v) (x ∷ w) h
less_more (y ∷ ys) (x ∷ xs) v w (inr h) = rw h.0 (more_after xs (x ∷ w) (y ∷ v) (more_here x y w v h.1))
