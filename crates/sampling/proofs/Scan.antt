-- The code's scan: it passes the bands below a quantity and stops at the first whose highest is not below it. Assumes nothing.
use Prim.Native.Nat.{ℕ, ◌+◌, ◌≤◌, ◌<◌}
use mathlib.Core.Bool.{Bool, true, false, cond, ◌&&◌}
use mathlib.Core.List.{List, [], ◌∷◌}
use mathlib.Core.Path.{◌≡◌, refl, ap, ◌∙◌}
use borrow.Author.Tests.{leb-false, lt-ltb, le-ltb, le-leb, lt-leb}
use lib.Dec.{leb, ltb}
use lib.ListN.{length, get_or}
use lib.Seq.{slice}
use Rattle.std.specs.List.{find}
use Rattle.std.specs.Prelude.{Option, Some, None}
use Rattle.lists.proofs.Slices.{slice_next, slice_done}
use Rattle.sampling.specs.declared.Band.{Band}
use Rattle.sampling.specs.Sampling.{band, sample_above}

module _ (before q : ℕ) (bs : List Band) (i n : ℕ) (above : before < q) (more : i < n) (held : n ≤ length bs) where
  abbrev here : Band
  here = get_or bs i (band 0 0)

  unrolled : sample_above before (slice i n bs) q ≡ cond (ltb before q && leb q here.highest) here.sample (sample_above here.highest (slice (i + 1) n bs) q)
  unfolding sample_above
  unrolled = ap (λ (l : List Band). sample_above before l q) (slice_next bs i n (band 0 0) more held)

  pub scan_next : here.highest < q → sample_above before (slice i n bs) q ≡ sample_above here.highest (slice (i + 1) n bs) q
  scan_next h = unrolled ∙ rw (lt-ltb before q above, lt-leb q here.highest h)

  pub scan_stop : q ≤ here.highest → sample_above before (slice i n bs) q ≡ here.sample
  scan_stop h = unrolled ∙ rw (lt-ltb before q above, le-leb q here.highest h)

pub scan_done : (before q : ℕ) (bs : List Band) (i n : ℕ) → i ≤ n → n ≤ i → sample_above before (slice i n bs) q ≡ 0
unfolding sample_above
scan_done before q bs i n h k = ap (λ (l : List Band). sample_above before l q) (slice_done bs i n h k)

-- quantity 0 lies in no band
pub zero_samples : (before : ℕ) (bs : List Band) → sample_above before bs 0 ≡ 0
unfolding sample_above
zero_samples before [] = refl
zero_samples before (b ∷ bs) = rw (le-ltb before 0 (Prim.Native.Nat.zero-le)) (zero_samples b.highest bs)

-- the sample of a band that was found, 0 where none was
abbrev pub sample_found : Option Band → ℕ
sample_found None = 0
sample_found (Some b) = b.sample

-- the first band that reaches a quantity has its sample
pub first_reaching : (before q : ℕ) (bs : List Band) → before < q → sample_above before bs q ≡ sample_found (find (λ (b : Band). leb q b.highest) bs)
unfolding sample_above
first_reaching before q [] h = refl
first_reaching before q (b ∷ bs) h = rw (lt-ltb before q h) (go (leb q b.highest) refl (first_reaching b.highest q bs))
  where
    reached : List Band → Option Band
    reached = find (λ (x : Band). leb q x.highest)

    go : (t : Bool) → leb q b.highest ≡ t → (b.highest < q → sample_above b.highest bs q ≡ sample_found (reached bs))
        → cond t b.sample (sample_above b.highest bs q) ≡ sample_found (cond t (Some b) (reached bs))
    go true e rest = refl
    go false e rest = rest (leb-false q b.highest e)
