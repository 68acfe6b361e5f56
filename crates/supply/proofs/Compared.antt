-- Two bids that offer the same quantities at other prices: what compares the prices on their segments compares those of their supply
-- functions. Assumes nothing.
use Prim.Native.Nat.{ℕ, ◌*◌}
use native.Mathlib.Omega.{arith}
use mathlib.Core.Bool.{Bool, true, false, cond, false≢true}
use mathlib.Core.List.{List, [], ◌∷◌}
use mathlib.Core.Path.{◌≡◌, refl, subst}
use lib.IntN.{ℤ, pos, ◌+ℤ◌}
use Rattle.lists.specs.Pairwise.{Pairwise}
use Rattle.lists.proofs.Pairwise.{pairwise_from, pairwise_map}
use Rattle.money.specs.Price.{price_of}
use Rattle.book.specs.declared.Segment.{Segment}
use Rattle.book.specs.Entries.{BidEntries}
use Rattle.book.specs.Rules.{price_on}
use Rattle.supply.specs.Supply.{segment0, delivered, supply_of, on, offers, price_at}
use Rattle.supply.proofs.OneSegment.{on_high}
use Rattle.supply.proofs.Carriage.{price_delivered}

-- A way to compare two prices of r blanks: it holds of nothing for nothing, and still where as much is added to both.
pub record Comparison (Q : ℕ → ℤ → ℤ → Type 0) : Type 0 where
  pub nothing : Q 0 (pos 0) (pos 0)
  pub added : (r n : ℕ) (p q : ℤ) → Q r p q → Q r (p +ℤ pos n) (q +ℤ pos n)

module _ (Q : ℕ → ℤ → ℤ → Type 0) where
  -- two segments from the same start to the same end
  pub record Compared (s t : Segment) : Type 0 where
    pub start : t.start.0 ≡ s.start.0
    pub end : t.end.0 ≡ s.end.0
    pub price : (r : ℕ) → on s r ≡ true → Q r (price_on s r) (price_on t r)

  -- two supply functions on which the same quantities are offered
  pub record ComparedSupply (ss ts : List Segment) : Type 0 where
    pub offered : (r : ℕ) → offers ts r ≡ offers ss r
    pub price : (r : ℕ) → offers ss r ≡ true → Q r (price_at ss r) (price_at ts r)

  on_same : (s t : Segment) → Compared s t → (r : ℕ) → on t r ≡ on s r
  unfolding on
  on_same s t c r = rw (c.start, c.end)

  same_offers : (ss ts : List Segment) → Pairwise Compared ss ts → (r : ℕ) → offers ts r ≡ offers ss r
  unfolding offers
  same_offers [] [] c r = refl
  same_offers [] (t ∷ ts) c r = elim c [ ]
  same_offers (s ∷ ss) [] c r = elim c [ ]
  same_offers (s ∷ ss) (t ∷ ts) c r = rw (on_same s t c.0 r, same_offers ss ts c.1 r)

  prices : (ss ts : List Segment) → Pairwise Compared ss ts → (r : ℕ) → offers ss r ≡ true → Q r (price_at ss r) (price_at ts r)
  unfolding offers price_at
  prices [] [] c r o = absurd (false≢true o)
  prices [] (t ∷ ts) c r o = elim c [ ]
  prices (s ∷ ss) [] c r o = elim c [ ]
  prices (s ∷ ss) (t ∷ ts) c r o = rw (on_same s t c.0 r) (go (on s r) refl (λ e. c.0.price r e) (λ e. prices ss ts c.1 r (rw e at o)))
    where
      go : (b : Bool) → on s r ≡ b → (on s r ≡ true → Q r (price_on s r) (price_on t r)) → (on s r ≡ false → Q r (price_at ss r) (price_at ts r))
          → Q r (cond b (price_on s r) (price_at ss r)) (cond b (price_on t r) (price_at ts r))
      go true e here later = here e
      go false e here later = later e

  compared_supply : (ss ts : List Segment) → Pairwise Compared ss ts → ComparedSupply ss ts
  compared_supply ss ts c = record { offered = same_offers ss ts c; price = prices ss ts c }

  module _ (comparison : Comparison Q) where
    -- segment 0 and itself
    nothing_compared : Compared segment0 segment0
    unfolding price_of
    nothing_compared = record {
      start = refl;
      end = refl;
      price = λ r o.
          let none : 0 ≡ r = omega (arith, on_high segment0 r o) in
          subst (λ (n : ℕ). Q n (price_on segment0 n) (price_on segment0 n)) none comparison.nothing;
    }

    -- two segments with the same carriage
    delivered_compared : (carriage : ℕ) (s t : Segment) → Compared s t → Compared (delivered carriage s) (delivered carriage t)
    unfolding on
    delivered_compared carriage s t c = record {
      start = c.start;
      end = c.end;
      price = λ r o.
          rw (price_delivered carriage s r, price_delivered carriage t r)
          (comparison.added r (carriage * r) (price_on s r) (price_on t r) (c.price r o));
    }

    pub supply_compared : (b b' : BidEntries) → b'.carriage ≡ b.carriage → Pairwise Compared b.segments b'.segments
        → ComparedSupply (supply_of b) (supply_of b')
    unfolding supply_of
    supply_compared b b' e c =
        let own = pairwise_map (delivered b.carriage) Compared b.segments b'.segments
        (pairwise_from Compared _ (delivered_compared b.carriage) b.segments b'.segments c) in
        rw e (compared_supply _ _ (nothing_compared, own))
