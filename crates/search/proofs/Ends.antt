-- The ends of a choice, as a loop puts one after the other into an array. Assumes nothing.
use Prim.Native.Nat.{ℕ, ◌+◌, ◌<◌}
use native.Mathlib.Numerals.{add-one}
use mathlib.Core.List.{List, [], ◌∷◌, ◌++◌, append_assoc}
use mathlib.Core.Path.{◌≡◌, refl, sym}
use lib.ListN.{length, get_or, set, take, length-map}
use lib.Seq.{take-suc-set}
use Rattle.lists.proofs.Latest.{latest_next}
use Rattle.lists.proofs.Slices.{map_set}
use Rattle.lists.specs.Latest.{latest}
use Rattle.money.specs.declared.Blanks.{Blanks}
use Rattle.book.specs.declared.Segment.{Segment}
use Rattle.supply.specs.Supply.{segment0}
use Rattle.choices.specs.Choice.{ends_then, ends_in_order}
use Rattle.comparison.specs.Records.{blanks_in}

ends_then_lem : (c : List Segment) (es : List ℕ) → ends_then c es ≡ ends_in_order c ++ es
ends_then_lem [] es = refl
ends_then_lem (s ∷ c) es = rw (ends_then_lem c (s.end.0 ∷ es), ends_then_lem c (s.end.0 ∷ []), append_assoc)

-- a turn puts in the end of the next segment
pub ends_next : (ss : List Segment) (i : ℕ) (all : List Blanks) → i < length all → take i (blanks_in all) ≡ ends_in_order (latest segment0 ss i)
    → take (i + 1) (blanks_in (set all i (get_or ss i segment0).end)) ≡ ends_in_order (latest segment0 ss (i + 1))
ends_next ss i all h e =
    let held : i < length (blanks_in all) = rw length-map h in
    let s = get_or ss i segment0 in
    rw (add-one, map_set, take-suc-set (blanks_in all) i _ held, latest_next, e) (sym (ends_then_lem (latest segment0 ss i) (s.end.0 ∷ [])))
