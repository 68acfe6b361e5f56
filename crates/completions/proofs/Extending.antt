-- The classes of the bidders after one, with a segment of that one more: a class, all of them, and with each segment of its bid. Assumes nothing.
use Prim.Native.Nat.{ℕ, zero, suc, ◌+◌, ◌*◌, ◌≤◌, ◌<◌}
use native.Mathlib.Omega.{arith}
use mathlib.Core.List.Memᴰ
use mathlib.Core.List.Memᴰ.{head as here}
use mathlib.Core.List.Memᴰ.{tail as there}
use mathlib.Core.List.{List, [], ◌∷◌}
use mathlib.Core.Path.{◌≡◌}
use lib.ListN.{length, get_or, drop}
use lib.Seq.{drop-cons}
use Rattle.lists.proofs.Tests.{same_or_not}
use Rattle.book.specs.declared.Segment.{Segment}
use Rattle.book.specs.declared.Order.{Order}
use Rattle.supply.specs.Supply.{segment0}
use Rattle.supply.specs.Allocation.{bought}
use Rattle.supply.specs.Meets.{most_of}
use Rattle.supply.specs.Sound.{SoundSegment}
use Rattle.choices.specs.Choice.{width, placed}
use Rattle.choices.specs.Chosen.{Chosen}
use Rattle.charges.specs.declared.Prices.{Prices}
use Rattle.charges.specs.declared.Sums.{Sums}
use Rattle.charges.specs.Charge.{charges}
use Rattle.charges.specs.Records.{sums_on}
use Rattle.completions.specs.Classes.{class_at, class_count, Has, Covers}
use Rattle.completions.specs.Steps.{Wider, Grown, ClassExtended, ExtendedBy, ExtendedByBid}

-- Tables whose classes have no less.

same_wide : (table : List Sums) → Wider table table
same_wide table = record { admits = λ i b x y h. h }

wide_then : {before table after : List Sums} → Wider before table → Wider table after → Wider before after
wide_then v w = record { admits = λ i b x y h. w.admits i b x y (v.admits i b x y h) }

has_wider : {before after : List Sums} {many at b x y : ℕ} → Wider before after → Has many before at b x y → Has many after at b x y
has_wider {at = at} w h = record { class = h.class; within = h.within; admits = w.admits (32 * at + h.class) _ _ _ h.admits }

-- of 32 classes
has_all : {table : List Sums} {at b x y : ℕ} (n : ℕ) → Has (class_count n) table at b x y → Has 32 table at b x y
has_all zero h = record { class = h.class; within = omega (arith, h.within); admits = h.admits }
has_all (suc n) h = h

pub covers_wider : {order : Order} {prices : Prices} {before after : List Sums} {at : ℕ} {supplies : List (List Segment)} → Wider before after
    → Covers order prices before at supplies → Covers order prices after at supplies
covers_wider w covers = record { has = λ e ys chosen fit. has_wider w (covers.has e ys chosen fit) }

-- All 32 classes, one after the other.
module _ (order : Order) (at : ℕ) (more : Sums) where
  pub classes_next : {before table after : List Sums} (i : ℕ) → ExtendedBy order at more i before table
      → ClassExtended order at (class_at table (32 * (at + 1) + i)) more table after → ExtendedBy order at more (i + 1) before after
  classes_next {before} {table} {after} i so_far next = record { wider = wide_then so_far.wider next.wider; grown = grown }
    where
      grown : (b x y : ℕ) → Has (i + 1) before (at + 1) b x y → Grown order at more after b x y
      grown b x y h r low high fit = same_or_not h.class i this earlier
        where
          this : h.class ≡ i → Has 32 after at (r + b) (more.charges.first + x) (more.charges.second + y)
          this e =
              let here_too = so_far.wider.admits (32 * (at + 1) + h.class) b x y h.admits in
              next.grown b x y (rw e at here_too) r low high fit

          earlier : (h.class ≡ i → ⊥) → Has 32 after at (r + b) (more.charges.first + x) (more.charges.second + y)
          earlier n =
              let within : h.class < i = omega (arith, n, h.within) in
              has_wider next.wider (so_far.grown b x y (record { class = h.class; within = within; admits = h.admits }) r low high fit)

-- The segments of a bid, one after the other.
module _ (order : Order) (at : ℕ) (prices : Prices) (supplies : List (List Segment)) where
  abbrev HasFor : List Sums → List Segment → List ℕ → Type 0
  HasFor table e ys = Has 32 table at (bought (placed e ys)) (charges order prices.first.0 e) (charges order prices.second.0 e)

  covers_none : (table : List Sums) → Covers order prices table at ([] ∷ supplies)
  covers_none table = record { has = has }
    where
      has : (e : List Segment) (ys : List ℕ) → Chosen ([] ∷ supplies) e ys → bought (placed e ys) ≤ most_of order → HasFor table e ys
      has [] ys chosen fit = elim chosen [ ]
      has (s ∷ e) [] chosen fit = elim chosen [ ]
      has (s ∷ e) (y ∷ ys) (m, l, rest) fit = absurd (Memᴰ.not-nil m)

  covers_more : {table after : List Sums} (s : Segment) (ss : List Segment) → s.start.0 ≤ s.end.0 → Covers order prices table (at + 1) supplies
      → Covers order prices table at (ss ∷ supplies) → ExtendedBy order at (sums_on order prices s) 32 table after
      → Covers order prices after at ((s ∷ ss) ∷ supplies)
  unfolding bought width
  covers_more {table} {after} s ss rising others so_far next = record { has = has }
    where
      has : (e : List Segment) (ys : List ℕ) → Chosen ((s ∷ ss) ∷ supplies) e ys → bought (placed e ys) ≤ most_of order → HasFor after e ys
      has [] ys chosen fit = elim chosen [ ]
      has (t ∷ e) [] chosen fit = elim chosen [ ]
      has (t ∷ e) (y ∷ ys) (here p, l, rest) fit =
          let left = has_all (length supplies) (others.has e ys rest (omega arith)) in
          let within : y ≤ width s = rw p at l in
          let fits : bought (placed (s ∷ e) (y ∷ ys)) ≤ most_of order = rw p at fit in
          rw p (next.grown _ _ _ left (s.start.0 + y) (omega arith) (omega arith) fits)
      has (t ∷ e) (y ∷ ys) (there m, l, rest) fit = has_wider next.wider (so_far.has (t ∷ e) (y ∷ ys) (m, l, rest) fit)

module _ (order : Order) (at : ℕ) (prices : Prices) where
  segments_more : {before table after : List Sums} (s : Segment) (ss : List Segment) → s.start.0 ≤ s.end.0
      → ExtendedByBid order at prices ss before table → ExtendedBy order at (sums_on order prices s) 32 table after
      → ExtendedByBid order at prices (s ∷ ss) before after
  segments_more s ss rising so_far next = record {
    wider = wide_then so_far.wider next.wider;
    covers = λ supplies others.
        covers_more order at prices supplies s ss rising (covers_wider so_far.wider others) (so_far.covers supplies others) next;
  }

  pub segments_none : (table : List Sums) → ExtendedByBid order at prices [] table table
  segments_none table =
      record { wider = same_wide table; covers = λ supplies others. covers_none order at prices supplies table }

  -- the one before those that are taken
  pub segments_next : {before table after : List Sums} (supply : List Segment) (j k : ℕ) → j ≡ suc k → k < length supply
      → SoundSegment (get_or supply k segment0) → ExtendedByBid order at prices (drop j supply) before table
      → ExtendedBy order at (sums_on order prices (get_or supply k segment0)) 32 table after → ExtendedByBid order at prices (drop k supply) before after
  segments_next supply j k e h sound so_far next =
      rw (drop-cons supply k segment0 h) (segments_more (get_or supply k segment0) (drop (suc k) supply) sound.order (rw e at so_far) next)
