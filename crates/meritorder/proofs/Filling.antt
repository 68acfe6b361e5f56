-- A choice filled from the last bidder to the first: what holds along the loop. Assumes nothing.
use Prim.Native.Nat.{ℕ, suc, ◌+◌, ◌-◌, ◌*◌, ◌≤◌, ◌<◌}
use native.Mathlib.Numerals.{add-one}
use native.Mathlib.Omega.{arith}
use mathlib.Core.List.{List, [], ◌∷◌, reverse, reverse_aux}
use mathlib.Core.Path.{◌≡◌, sym, ap, ◌∙◌}
use lib.IntN.{ℤ, nat_abs, ◌+ℤ◌, +ℤ_assoc, +ℤ_idr}
use lib.ListN.{length, set, take, length-set, length-map}
use lib.Seq.{slice}
use mir.Syntax.{w64}
use mir.Val.{SFits}
use Rattle.lists.proofs.Latest.{latest_none, latest_next}
use Rattle.lists.proofs.Slices.{map_set, slice_set}
use Rattle.money.specs.declared.Blanks.{Blanks}
use Rattle.money.proofs.Bounds.{nat_abs_plus, small_fits}
use Rattle.book.specs.declared.Segment.{Segment}
use Rattle.book.specs.declared.Order.{Order}
use Rattle.book.specs.Rules.{price_on}
use Rattle.supply.specs.Supply.{segment0}
use Rattle.supply.specs.Sound.{most_blanks, price_limit, SoundSegment}
use Rattle.supply.proofs.Sound.{price_small}
use Rattle.divisions.specs.Award.{Priced}
use Rattle.choices.specs.Choice.{width, extra, extras, placed, cost_with, filled}
use Rattle.choicerecord.specs.declared.Choice.{Choice}
use Rattle.choicerecord.specs.Records.{segment_at, first_segments, chosen}
use Rattle.comparison.specs.Records.{blanks_in}

-- an extra is no more than what is left, and with the start no more than the end
pub extra_left : (left : ℕ) (s : Segment) (c : List Segment) → extra left s c ≤ left
extra_left left s c = omega arith

extra_end : (left : ℕ) (s : Segment) (c : List Segment) → s.start.0 ≤ s.end.0 → s.start.0 + extra left s c ≤ s.end.0
unfolding width
extra_end left s c h = omega arith

-- the cost and the quantities of a choice, with so much left to give
abbrev pub cost_from : ℕ → List Segment → ℤ
cost_from left c = cost_with c (extras left c)

abbrev pub given_from : ℕ → List Segment → List ℕ
given_from left c = placed c (extras left c)

-- of a choice with `all` to give, those from i on have their quantities, which cost `total`, and so much is left
pub record Filling (c : Choice) (all left : ℕ) (quantities : List Blanks) (total : ℤ) (i : ℕ) : Type 0 where
  pub within : i ≤ c.count
  pub held : length quantities ≡ 8
  pub size : nat_abs total + price_limit * i ≤ price_limit * c.count
  pub cost : total +ℤ cost_from left (first_segments c i) ≡ cost_from all (chosen c)
  pub given : reverse_aux (given_from left (first_segments c i)) (slice i c.count (blanks_in quantities)) ≡ reverse (given_from all (chosen c))

module _ {c : Choice} {all left : ℕ} {quantities : List Blanks} {total : ℤ} {i : ℕ} (filling : Filling c all left quantities total i) where
  -- the bidder before gets its extra
  module _ (k : ℕ) (is-next : i ≡ suc k) where
    abbrev this : Segment
    this = segment_at c k

    abbrev earlier : List Segment
    earlier = first_segments c k

    pub sound_this : SoundSegment this
    sound_this = c.sound.each k (omega (arith, filling.within))

    here : first_segments c i ≡ this ∷ earlier
    here = ap (first_segments c) is-next ∙ latest_next segment0 c.segments k

    pub within_end : (x : ℕ) → x ≡ extra left this earlier → this.start.0 + x ≤ this.end.0
    within_end x is-extra = rw is-extra (extra_end left this earlier sound_this.order)

    module _ (x : ℕ) (is-extra : x ≡ extra left this earlier) (p : ℤ) (is-price : p ≡ price_on this (this.start.0 + x)) where
      total_small : nat_abs (total +ℤ p) + price_limit * k ≤ price_limit * c.count
      total_small =
          let few_blanks : this.start.0 + x ≤ most_blanks = omega (arith, within_end x is-extra, sound_this.end_high) in
          let price_high : nat_abs p ≤ price_limit = rw is-price (price_small this (this.start.0 + x) sound_this few_blanks) in
          omega (arith, nat_abs_plus total p, filling.size)

      pub total_fits : SFits w64 (total +ℤ p)
      total_fits = small_fits (total +ℤ p) (omega (arith, total_small, c.sound.few))

      next_cost : (total +ℤ p) +ℤ cost_from (left - x) earlier ≡ cost_from all (chosen c)
      next_cost =
          rw (is-price, is-extra)
          (+ℤ_assoc total (price_on this (this.start.0 + extra left this earlier)) (cost_from (left - extra left this earlier) earlier)
          ∙ rw here at filling.cost)

      module _ (q : Blanks) (is-quantity : q.0 ≡ this.start.0 + x) where
        stored : slice k c.count (blanks_in (set quantities k q)) ≡ (this.start.0 + x) ∷ slice i c.count (blanks_in quantities)
        stored =
            let held : c.count ≤ length (blanks_in quantities) = rw length-map (omega (arith, filling.held, c.sound.few)) in
            let below : k < c.count = omega (arith, filling.within) in
            rw (map_set, slice_set (blanks_in quantities) k c.count q.0 below held, is-quantity, is-next, add-one)

        next_given : reverse_aux (given_from (left - x) earlier) (slice k c.count (blanks_in (set quantities k q))) ≡ reverse (given_from all (chosen c))
        next_given = rw (stored, is-extra) (rw here at filling.given)

        pub filling_next : (total' : ℤ) → total' ≡ total +ℤ p → Filling c all (left - x) (set quantities k q) total' k
        filling_next total' e = record {
          within = omega (arith, filling.within);
          held = rw length-set filling.held;
          size = rw e total_small;
          cost = rw e next_cost;
          given = next_given;
        }

  -- every bidder has its extra
  module _ (none_left : i ≡ 0) where
    last : first_segments c i ≡ []
    last = ap (first_segments c) none_left ∙ latest_none segment0 c.segments

    all_cost : total ≡ cost_from all (chosen c)
    all_cost = sym (+ℤ_idr total) ∙ rw last at filling.cost

    all_given : take c.count (blanks_in quantities) ≡ reverse (given_from all (chosen c))
    all_given = rw none_left at (rw last at filling.given)

    pub filling_all : (order : Order) (blanks : ℕ) → all ≡ order.demand.0 - c.starts.0 → blanks ≡ c.starts.0 + all
        → ◌≡◌ {A = Priced} (record { cost = total; blanks = blanks; quantities = take c.count (blanks_in quantities) }) (filled order (chosen c))
    unfolding filled
    filling_all order blanks e b = rw (all_cost, all_given, b, e, c.sound.starts_carried)
