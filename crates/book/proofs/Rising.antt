-- Rule 7: what it says of the first segment and of those after it, and along a loop. Assumes nothing.
use Prim.Native.Nat.{ℕ, ◌+◌, ◌≤◌, ◌<◌}
use mathlib.Core.Bool.{true, false, ◌&&◌, and-false}
use mathlib.Core.List.{List, ◌∷◌}
use mathlib.Core.Path.{◌≡◌, ap, ◌∙◌}
use borrow.Author.Tests.{ltb-true, leb-true}
use lib.Dec.{leb, ltb}
use lib.ListN.{length, get_or}
use lib.Seq.{slice}
use Rattle.lists.proofs.Slices.{slice_next, slice_done}
use Rattle.lists.proofs.Tests.{both_left, both_right}
use Rattle.book.specs.declared.Segment.{Segment}
use Rattle.book.specs.Rules.{segments_rise}
use Rattle.book.proofs.Records.{no_segment}

pub record Step (before : ℕ) (s : Segment) (ss : List Segment) : Type 0 where
  pub above : before < s.start.0
  pub order : s.start.0 ≤ s.end.0
  pub rest : segments_rise s.end.0 ss ≡ true

pub step : (before : ℕ) (s : Segment) (ss : List Segment) → segments_rise before (s ∷ ss) ≡ true → Step before s ss
unfolding segments_rise
step before s ss e =
    let a = ltb before s.start.0 in
    let o = leb s.start.0 s.end.0 in
    let r = segments_rise s.end.0 ss in
    let front = both_left (a && o) r e in
    record { above = ltb-true before s.start.0 (both_left a o front); order = leb-true s.start.0 s.end.0 (both_right a o front); rest = both_right (a && o) r e }

-- along a loop
module _ (before : ℕ) (ss : List Segment) (i n : ℕ) (more : i < n) (held : n ≤ length ss) where
  abbrev here : Segment
  here = get_or ss i no_segment

  unrolled : segments_rise before (slice i n ss) ≡ (ltb before here.start.0 && leb here.start.0 here.end.0 && segments_rise here.end.0 (slice (i + 1) n ss))
  unfolding segments_rise
  unrolled = ap (segments_rise before) (slice_next ss i n no_segment more held)

  pub rises_next : ltb before here.start.0 ≡ true → leb here.start.0 here.end.0 ≡ true
      → segments_rise before (slice i n ss) ≡ segments_rise here.end.0 (slice (i + 1) n ss)
  rises_next p q = unrolled ∙ rw (p, q)

  pub start_not_above : ltb before here.start.0 ≡ false → segments_rise before (slice i n ss) ≡ false
  start_not_above p = unrolled ∙ rw p

  pub start_above_end : leb here.start.0 here.end.0 ≡ false → segments_rise before (slice i n ss) ≡ false
  start_above_end q = unrolled ∙ rw (q, and-false)

pub rises_done : (before : ℕ) (ss : List Segment) (i n : ℕ) → i ≤ n → n ≤ i → segments_rise before (slice i n ss) ≡ true
unfolding segments_rise
rises_done before ss i n h k = ap (segments_rise before) (slice_done ss i n h k)
