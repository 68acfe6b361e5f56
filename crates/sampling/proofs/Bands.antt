-- Bands checked by rule 12, a line after the other: along a loop, what each band keeps that is accepted, and the highest quantity of the last.
-- Assumes nothing.
use Prim.Native.Nat.{ℕ, zero, suc, ◌+◌, ◌-◌, ◌≤◌, ◌<◌}
use native.Mathlib.Nat.{le_of_suc-le-suc, not-suc-le-zero}
use native.Mathlib.Omega.{arith}
use mathlib.Core.Bool.{Bool, true, false, ◌&&◌, false≢true}
use mathlib.Core.List.{List, [], ◌∷◌}
use mathlib.Core.Path.{◌≡◌, refl, sym, ap, ◌∙◌}
use borrow.Author.Tests.{ltb-true, leb-true, lt-ltb, le-leb}
use lib.Dec.{leb, ltb}
use lib.ListN.{length, get_or, take}
use lib.Seq.{slice, get_or-take, length-take-le}
use Rattle.std.specs.Prelude.{Err}
use Rattle.lists.specs.All.{All}
use Rattle.lists.proofs.Slices.{slice_next, slice_done}
use Rattle.lists.proofs.Tests.{both_left, both_right}
use Rattle.refusal.specs.Checks.{unless}
use Rattle.refusal.specs.declared.Rule.TheVariants.{SamplingTable}
use Rattle.refusal.specs.declared.Refusal.{Refusal}
use Rattle.refusal.specs.Verdict.{Verdict, Accepted}
use Rattle.refusal.proofs.Firsts.{only, all_passed, test_holds}
use Rattle.sampling.specs.declared.Band.{Band}
use Rattle.sampling.specs.Sampling.{band}
use Rattle.sampling.specs.Rules.{band_keeps, bands_verdict, last_highest}

-- a loop goes on past a band that keeps the rules, stops at one that breaks one, and ends with all accepted
module _ (line : ℕ) (before : Band) (bs : List Band) (i n : ℕ) (more : i < n) (held : n ≤ length bs) where
  abbrev here : Band
  here = get_or bs i (band 0 0)

  abbrev check : Verdict
  check = unless (band_keeps before here) SamplingTable line

  pub bands_next : check ≡ Accepted → bands_verdict line before (slice i n bs) ≡ bands_verdict (line + 1) here (slice (i + 1) n bs)
  unfolding bands_verdict
  bands_next e = ap (bands_verdict line before) (slice_next bs i n (band 0 0) more held) ∙ rw e (only _)

  pub bands_stop : (refusal : Refusal) → check ≡ Err refusal → bands_verdict line before (slice i n bs) ≡ Err refusal
  unfolding bands_verdict
  bands_stop refusal e = ap (bands_verdict line before) (slice_next bs i n (band 0 0) more held) ∙ rw e

pub bands_done : (line : ℕ) (before : Band) (bs : List Band) (i n : ℕ) → i ≤ n → n ≤ i → bands_verdict line before (slice i n bs) ≡ Accepted
unfolding bands_verdict
bands_done line before bs i n h k = ap (bands_verdict line before) (slice_done bs i n h k)

-- what a band keeps that may stand after the band `before`
pub record Kept (before b : Band) : Type 0 where
  pub rises : before.highest < b.highest
  pub highest_most : b.highest ≤ 1000000
  pub sample_least : 1 ≤ b.sample
  pub sample_most : b.sample ≤ 99999
  pub never_falls : before.sample ≤ b.sample
  pub within_lowest : b.sample ≤ before.highest + 1

band_kept : (before b : Band) → band_keeps before b ≡ true → Kept before b
unfolding band_keeps
band_kept before b e =
    let rises = ltb before.highest b.highest in
    let high = rises && leb b.highest 1000000 in
    let some = high && leb 1 b.sample in
    let small = some && leb b.sample 99999 in
    let never_falls = small && leb before.sample b.sample in
    let e₄ = both_left never_falls _ e in
    let e₃ = both_left small _ e₄ in
    let e₂ = both_left some _ e₃ in
    let e₁ = both_left high _ e₂ in
    record {
      rises = ltb-true _ _ (both_left rises _ e₁);
      highest_most = leb-true _ _ (both_right rises _ e₁);
      sample_least = leb-true _ _ (both_right high _ e₂);
      sample_most = leb-true _ _ (both_right some _ e₃);
      never_falls = leb-true _ _ (both_right small _ e₄);
      within_lowest = leb-true _ _ (both_right never_falls _ e);
    }

kept_band : (before b : Band) → Kept before b → band_keeps before b ≡ true
unfolding band_keeps
kept_band before b k =
    rw (
      lt-ltb _ _ k.rises,
      le-leb _ _ k.highest_most,
      le-leb _ _ k.sample_least,
      le-leb _ _ k.sample_most,
      le-leb _ _ k.never_falls,
      le-leb _ _ k.within_lowest,
    )

-- an answer that is true exactly where the band keeps all of that
pub decides : (before b : Band) (answer : Bool) → (answer ≡ true → Kept before b) → (Kept before b → answer ≡ true) → answer ≡ band_keeps before b
decides before b true keeps kept = sym (kept_band before b (keeps refl))
decides before b false keeps kept = go (band_keeps before b) refl
  where
    go : (t : Bool) → band_keeps before b ≡ t → false ≡ t
    go true e = kept (band_kept before b e)
    go false e = refl

pub breaks : (before b : Band) → (Kept before b → ⊥) → false ≡ band_keeps before b
breaks before b broken = decides before b false (λ e. absurd (false≢true e)) (λ k. absurd (broken k))

-- the first band on its line, and then the others
module _ (line : ℕ) (before b : Band) (bs : List Band) (accepted : bands_verdict line before (b ∷ bs) ≡ Accepted) where
  lines : All (λ v. v ≡ Accepted) (unless (band_keeps before b) SamplingTable line ∷ bands_verdict (line + 1) b bs ∷ [])
  unfolding bands_verdict
  lines = all_passed (_ ∷ _ ∷ []) accepted

  first_kept : Kept before b
  first_kept = band_kept before b (test_holds (band_keeps before b) SamplingTable line lines.0)

  later_lines : bands_verdict (line + 1) b bs ≡ Accepted
  later_lines = lines.1.0

-- at each index; the band before that with index k has index k in `before ∷ bs`
pub kept_at : (line : ℕ) (before : Band) (bs : List Band) → bands_verdict line before bs ≡ Accepted → (k : ℕ) → k < length bs
    → Kept (get_or (before ∷ bs) k (band 0 0)) (get_or bs k (band 0 0))
kept_at line before [] e k h = absurd (not-suc-le-zero h)
kept_at line before (b ∷ bs) e zero h = first_kept line before b bs e
kept_at line before (b ∷ bs) e (suc k) h = kept_at (line + 1) b bs (later_lines line before b bs e) k (le_of_suc-le-suc h)

-- the last band, or `before` where there is none
pub last_at : (before : Band) (bs : List Band) → last_highest before.highest bs ≡ (get_or (before ∷ bs) (length bs) (band 0 0)).highest
unfolding last_highest
last_at before [] = refl
last_at before (b ∷ bs) = last_at b bs

-- of the first n bands that a record holds
pub last_held : (bs : List Band) (n : ℕ) → 0 < n → n ≤ length bs → last_highest 0 (take n bs) ≡ (get_or bs (n - 1) (band 0 0)).highest
last_held bs n some held =
    let counted : length (take n bs) ≡ suc (n - 1) = omega (arith, length-take-le n bs held) in
    last_at (band 0 0) (take n bs)
    ∙ rw counted (ap (λ (b : Band). b.highest) (get_or-take n bs (n - 1) (band 0 0) (omega arith)))

-- of accepted bands, at most 1,000,000
pub last_most : (line : ℕ) (before : Band) (bs : List Band) → bands_verdict line before bs ≡ Accepted → before.highest ≤ 1000000
    → last_highest before.highest bs ≤ 1000000
unfolding last_highest
last_most line before [] e h = h
last_most line before (b ∷ bs) e h = last_most (line + 1) b bs (later_lines line before b bs e) (first_kept line before b bs e).highest_most
