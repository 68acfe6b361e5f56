-- A segment chosen from each supply function, in book order, and an extra of its width: these are the allocations. Assumes nothing.
use Prim.Native.Nat.{ℕ, suc, ◌+◌, ◌-◌, ◌≤◌}
use native.Mathlib.Omega.{arith}
use mathlib.Core.Bool.{Bool, true, false, cond, or-true, false≢true}
use mathlib.Core.List.Memᴰ
use mathlib.Core.List.Memᴰ.{head as here}
use mathlib.Core.List.Memᴰ.{tail as there}
use mathlib.Core.List.{List, [], ◌∷◌, Memᴰ as In}
use mathlib.Core.Path.{◌≡◌, refl, ap, ap₂, ◌∙◌}
use borrow.Author.Tests.{le-leb}
use lib.ListN.{length}
use lib.IntN.{pos, ◌+ℤ◌}
use Rattle.lists.specs.All.{All}
use Rattle.lists.proofs.Members.{all_in}
use Rattle.book.specs.declared.Segment.{Segment}
use Rattle.book.proofs.InRange.{within_low, within_high}
use Rattle.supply.specs.Supply.{on, offers}
use Rattle.supply.specs.Allocation.{cost_of}
use Rattle.supply.specs.Sound.{SoundSegment}
use Rattle.supply.proofs.Sound.{SoundSupply}
use Rattle.divisions.specs.Division.{Allocation}
use Rattle.divisions.specs.IsAward.{inside_count}
use Rattle.choices.specs.Choice.{width, placed}
use Rattle.choices.specs.Chosen.{Chosen}
use Rattle.choices.proofs.Fill.{cost, Box}
use Rattle.choices.proofs.Certificate.{insides}
use Rattle.choices.proofs.Placed.{price_on_lem}

-- One segment.

on_when : (s : Segment) (x : ℕ) → SoundSegment s → x ≤ width s → on s (s.start.0 + x) ≡ true
unfolding on width
on_when s x sound h =
    let r = s.start.0 + x in
    rw (le-leb s.start.0 r (omega arith), le-leb r s.end.0 (omega (arith, sound.order)))

offers_when : (ss : List Segment) (s : Segment) (r : ℕ) → In s ss → on s r ≡ true → offers ss r ≡ true
unfolding offers
offers_when [] s r m o = absurd (Memᴰ.not-nil m)
offers_when (t ∷ ts) s r (here e) o = let o' : on t r ≡ true = rw e at o in rw o'
offers_when (t ∷ ts) s r (there m) o = rw (offers_when ts s r m o) (or-true (on t r))

-- a quantity that is offered is on a segment, with an extra of its width
record OnSegment (ss : List Segment) (r : ℕ) : Type 0 where
  segment : Segment
  extra : ℕ
  chosen : In segment ss
  within : extra ≤ width segment
  quantity : r ≡ segment.start.0 + extra

offered_here : (s : Segment) (ss : List Segment) (r : ℕ) → on s r ≡ true → OnSegment (s ∷ ss) r
unfolding on width
offered_here s ss r e =
    let low = within_low s.start.0 s.end.0 r e in
    let high = within_high s.start.0 s.end.0 r e in
    record { segment = s; extra = r - s.start.0; chosen = here refl; within = omega arith; quantity = omega arith }

offered : (ss : List Segment) (r : ℕ) → offers ss r ≡ true → OnSegment ss r
unfolding offers
offered [] r e = absurd (false≢true e)
offered (s ∷ ss) r e = go (on s r) refl (λ f. offered ss r (rw f at e))
  where
    go : (t : Bool) → on s r ≡ t → (on s r ≡ false → OnSegment ss r) → OnSegment (s ∷ ss) r
    go true f later = offered_here s ss r f
    go false f later =
        let o = later f in
        record { segment = o.segment; extra = o.extra; chosen = there o.chosen; within = o.within; quantity = o.quantity }

-- All of them.

module _ (ss : List Segment) (s : Segment) (x : ℕ) (sound : SoundSupply ss) (m : In s ss) (h : x ≤ width s) where
  chosen_sound : SoundSegment s
  chosen_sound = all_in SoundSegment ss s sound.each m

  chosen_on : on s (s.start.0 + x) ≡ true
  chosen_on = on_when s x chosen_sound h

pub chosen_allocation : (supplies : List (List Segment)) (c : List Segment) (xs : List ℕ) → All SoundSupply supplies → Chosen supplies c xs
    → Allocation supplies (placed c xs)
chosen_allocation [] [] (x ∷ xs) sound a = elim a [ ]
chosen_allocation [] (s ∷ c) xs sound a = elim a [ ]
chosen_allocation (ss ∷ supplies) [] xs sound a = elim a [ ]
chosen_allocation (ss ∷ supplies) (s ∷ c) [] sound a = elim a [ ]
chosen_allocation [] [] [] sound a = tt
chosen_allocation (ss ∷ supplies) (s ∷ c) (x ∷ xs) sound (m, h, a) =
    (offers_when ss s (s.start.0 + x) m (chosen_on ss s x sound.0 m h), chosen_allocation supplies c xs sound.1 a)

pub chosen_cost : (supplies : List (List Segment)) (c : List Segment) (xs : List ℕ) → All SoundSupply supplies → Chosen supplies c xs
    → cost_of supplies (placed c xs) ≡ pos (cost c xs)
unfolding cost_of
chosen_cost [] [] (x ∷ xs) sound a = elim a [ ]
chosen_cost [] (s ∷ c) xs sound a = elim a [ ]
chosen_cost (ss ∷ supplies) [] xs sound a = elim a [ ]
chosen_cost (ss ∷ supplies) (s ∷ c) [] sound a = elim a [ ]
chosen_cost [] [] [] sound a = refl
chosen_cost (ss ∷ supplies) (s ∷ c) (x ∷ xs) sound (m, h, a) =
    let price = sound.0.one_price s (s.start.0 + x) m (chosen_on ss s x sound.0 m h) in
    ap₂ ◌+ℤ◌ (price ∙ price_on_lem s x (chosen_sound ss s x sound.0 m h)) (chosen_cost supplies c xs sound.1 a)

pub chosen_inside : (supplies : List (List Segment)) (c : List Segment) (xs : List ℕ) → All SoundSupply supplies → Chosen supplies c xs
    → inside_count supplies (placed c xs) ≡ insides c xs
unfolding inside_count
chosen_inside [] [] (x ∷ xs) sound a = elim a [ ]
chosen_inside [] (s ∷ c) xs sound a = elim a [ ]
chosen_inside (ss ∷ supplies) [] xs sound a = elim a [ ]
chosen_inside (ss ∷ supplies) (s ∷ c) [] sound a = elim a [ ]
chosen_inside [] [] [] sound a = refl
chosen_inside (ss ∷ supplies) (s ∷ c) (x ∷ xs) sound (m, h, a) =
    let same = sound.0.one_inside s (s.start.0 + x) m (chosen_on ss s x sound.0 m h) in
    ap₂ ◌+◌ (ap (λ (t : Bool). cond t 1 0) same) (chosen_inside supplies c xs sound.1 a)

-- and every allocation is of such quantities
pub allocation_chosen : (supplies : List (List Segment)) (rs : List ℕ) → Allocation supplies rs
    → (c : List Segment) × (xs : List ℕ) × Chosen supplies c xs × (rs ≡ placed c xs)
allocation_chosen [] (r ∷ rs) a = elim a [ ]
allocation_chosen (ss ∷ supplies) [] a = elim a [ ]
allocation_chosen [] [] a = ([], [], tt, refl)
allocation_chosen (ss ∷ supplies) (r ∷ rs) a =
    let o = offered ss r a.0 in
    let (c, xs, l, e) = allocation_chosen supplies rs a.1 in
    (o.segment ∷ c, o.extra ∷ xs, (o.chosen, o.within, l), ap₂ ◌∷◌ o.quantity e)

-- Of segments so chosen: their extras are in their box, each is sound, and there is one for each supply function.

pub chosen_box : (supplies : List (List Segment)) (c : List Segment) (xs : List ℕ) → Chosen supplies c xs → Box c xs
chosen_box [] [] (x ∷ xs) a = elim a [ ]
chosen_box [] (s ∷ c) xs a = elim a [ ]
chosen_box (ss ∷ supplies) [] xs a = elim a [ ]
chosen_box (ss ∷ supplies) (s ∷ c) [] a = elim a [ ]
chosen_box [] [] [] a = tt
chosen_box (ss ∷ supplies) (s ∷ c) (x ∷ xs) (m, h, a) = (h, chosen_box supplies c xs a)

pub chosen_each : (supplies : List (List Segment)) (c : List Segment) (xs : List ℕ) → All SoundSupply supplies → Chosen supplies c xs
    → All SoundSegment c
chosen_each [] [] (x ∷ xs) sound a = elim a [ ]
chosen_each [] (s ∷ c) xs sound a = elim a [ ]
chosen_each (ss ∷ supplies) [] xs sound a = elim a [ ]
chosen_each (ss ∷ supplies) (s ∷ c) [] sound a = elim a [ ]
chosen_each [] [] [] sound a = tt
chosen_each (ss ∷ supplies) (s ∷ c) (x ∷ xs) sound (m, h, a) = (all_in SoundSegment ss s sound.0.each m, chosen_each supplies c xs sound.1 a)

pub chosen_length : (supplies : List (List Segment)) (c : List Segment) (xs : List ℕ) → Chosen supplies c xs → length c ≡ length supplies
chosen_length [] [] (x ∷ xs) a = elim a [ ]
chosen_length [] (s ∷ c) xs a = elim a [ ]
chosen_length (ss ∷ supplies) [] xs a = elim a [ ]
chosen_length (ss ∷ supplies) (s ∷ c) [] a = elim a [ ]
chosen_length [] [] [] a = refl
chosen_length (ss ∷ supplies) (s ∷ c) (x ∷ xs) (m, h, a) = ap suc (chosen_length supplies c xs a)
