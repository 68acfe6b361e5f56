-- The bidders from each one on, from the last to the first: what their classes cover. Assumes nothing.
use Prim.Native.Nat.{ℕ, ◌+◌, ◌*◌, ◌≤◌, ◌<◌}
use native.Mathlib.Omega.{arith}
use mathlib.Core.List.{List, [], ◌∷◌}
use mathlib.Core.Path.{◌≡◌}
use lib.ListN.{drop}
use Rattle.lists.proofs.Tests.{same_or_not}
use Rattle.book.specs.declared.Segment.{Segment}
use Rattle.book.specs.declared.Order.{Order}
use Rattle.supply.specs.Allocation.{bought}
use Rattle.supply.specs.Meets.{most_of}
use Rattle.choices.specs.Choice.{placed}
use Rattle.choices.specs.Chosen.{Chosen}
use Rattle.charges.specs.declared.Prices.{Prices}
use Rattle.charges.specs.declared.Sums.{Sums}
use Rattle.charges.specs.Charge.{charges}
use Rattle.charges.specs.Records.{UpTo}
use Rattle.completions.specs.Classes.{Has, Covers, Graded}
use Rattle.completions.specs.Steps.{Put, ExtendedByBid}
use Rattle.completions.proofs.Putting.{put_at}
use Rattle.completions.proofs.Extending.{covers_wider}

-- the class of what no bidder adds: nothing, without a charge
abbrev pub nothing : Sums
nothing = record { low = record { 0 = 0 }; high = record { 0 = 1 }; charges = record { first = 0; second = 0 } }

-- with it a table is graded still
pub graded_end : {before after : List Sums} (n : ℕ) → Put before (32 * n) nothing after → Graded before → Graded after
graded_end n put graded = record {
  up_to = λ at left class h l. put_at put (UpTo left) (32 * at + class) (λ p. omega arith) (graded.up_to at left class h l);
}

module _ (order : Order) (prices : Prices) where
  covers_end : {before after : List Sums} (at : ℕ) → Put before (32 * at) nothing after → Covers order prices after at []
  unfolding bought
  covers_end {before} {after} at put = record { has = has }
    where
      has : (e : List Segment) (ys : List ℕ) → Chosen [] e ys → bought (placed e ys) ≤ most_of order
          → Has 1 after at (bought (placed e ys)) (charges order prices.first.0 e) (charges order prices.second.0 e)
      has [] (_ ∷ _) chosen fit = elim chosen [ ]
      has (_ ∷ _) ys chosen fit = elim chosen [ ]
      has [] [] chosen fit =
          let first : 32 * at + 0 ≡ 32 * at = omega arith in
          record { class = 0; within = omega arith; admits = rw (first, put.here) (omega arith) }

  -- of n supply functions, those from the bidder i on
  pub record CoversFrom (supplies : List (List Segment)) (n i : ℕ) (table : List Sums) : Type 0 where
    pub covers : (at : ℕ) → i ≤ at → at ≤ n → Covers order prices table at (drop at supplies)

  module _ (supplies : List (List Segment)) (n : ℕ) where
    pub from_none : {before after : List Sums} → Put before (32 * n) nothing after → drop n supplies ≡ [] → CoversFrom supplies n n after
    from_none put e = record { covers = λ at low high. let same : at ≡ n = omega arith in rw (same, e) (covers_end n put) }

    pub from_next : {table after : List Sums} (i : ℕ) (supply : List Segment) → i < n → drop i supplies ≡ supply ∷ drop (i + 1) supplies
        → CoversFrom supplies n (i + 1) table → ExtendedByBid order i prices supply table after → CoversFrom supplies n i after
    from_next {table} {after} i supply h e later next = record { covers = λ at low high. same_or_not at i this (after_it at low high) }
      where
        this : {at : ℕ} → at ≡ i → Covers order prices after at (drop at supplies)
        this p = rw (p, e) (next.covers (drop (i + 1) supplies) (later.covers (i + 1) (omega arith) (omega arith)))

        after_it : (at : ℕ) → i ≤ at → at ≤ n → (at ≡ i → ⊥) → Covers order prices after at (drop at supplies)
        after_it at low high different = covers_wider next.wider (later.covers at (omega arith) high)
