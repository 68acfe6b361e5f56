-- What the chosen segments that are no dearer can take, as a chain over the array adds it up. Assumes nothing.
use Prim.Native.Nat.{ℕ, zero, suc, ◌≤◌, ◌<◌}
use native.Mathlib.Omega.{arith}
use mathlib.Core.Bool.{Bool, true, false, cond}
use mathlib.Core.List.{List, [], ◌∷◌, map}
use mathlib.Core.Path.{◌≡◌, refl}
use lib.Dec.{leb}
use lib.ListN.{length, get_or, take}
use lib.Seq.{take-suc}
use Rattle.std.specs.List.{sum}
use Rattle.std.proofs.lemmas.List.{map-append}
use Rattle.std.proofs.lemmas.List.Elements.{filter-append}
use Rattle.std.proofs.lemmas.List.Sums.{sum_by-append}
use Rattle.lists.specs.All.{All}
use Rattle.lists.specs.Latest.{latest}
use Rattle.lists.proofs.Latest.{latest_none, latest_next, latest_all, length_latest}
use Rattle.book.specs.declared.Segment.{Segment}
use Rattle.supply.specs.Supply.{segment0}
use Rattle.supply.specs.Sound.{SoundSegment}
use Rattle.choices.specs.Choice.{ends, width, width_at, cheaper}
use Rattle.choices.proofs.Sums.{ends_small}
use Rattle.choicerecord.specs.declared.Choice.{Choice}
use Rattle.choicerecord.specs.Records.{first_segments}
use Rattle.meritorder.specs.Widths.{widths}

one_width : (unit : ℕ) (s : Segment) → widths unit (s ∷ []) ≡ width_at unit s
one_width unit s = go (leb s.unit.0 unit)
  where
    go : (t : Bool) → sum (map (λ (s : Segment). width s) (cond t (s ∷ []) [])) ≡ cond t (width s) 0
    go true = omega arith
    go false = refl

pub widths_cheaper : (unit : ℕ) (ss : List Segment) (n : ℕ) → n ≤ length ss → widths unit (take n ss) ≡ cheaper unit (latest segment0 ss n)
widths_cheaper unit ss zero h = rw (latest_none segment0 ss)
widths_cheaper unit ss (suc n) h =
    let further : n < length ss = omega arith in
    let last = get_or ss n segment0 in
    rw (take-suc ss n segment0 further, filter-append, map-append, sum_by-append (λ (w : ℕ). w), latest_next segment0 ss n)
    (omega (arith, widths_cheaper unit ss n (omega arith), one_width unit last))

-- It is no more than the ends add up to.

width_high : (unit : ℕ) (s : Segment) → width_at unit s ≤ s.end.0
unfolding width
width_high unit s = go (leb s.unit.0 unit)
  where
    go : (t : Bool) → cond t (width s) 0 ≤ s.end.0
    go true = omega arith
    go false = omega arith

cheaper_high : (unit : ℕ) (c : List Segment) → cheaper unit c ≤ ends c
cheaper_high unit [] = omega arith
cheaper_high unit (s ∷ c) = omega (arith, width_high unit s, cheaper_high unit c)

pub cheaper_small : (unit : ℕ) (c : Choice) (n : ℕ) → n ≤ c.count → cheaper unit (first_segments c n) ≤ 8000000
cheaper_small unit c n h =
    let sound : All SoundSegment (first_segments c n) = latest_all segment0 SoundSegment c.segments n (λ i l. c.sound.each i (omega arith)) in
    omega (arith, cheaper_high unit (first_segments c n), ends_small (first_segments c n) sound, length_latest segment0 c.segments n, c.sound.few)
