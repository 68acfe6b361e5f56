-- A table is refused by rule 12 alone, on one of its lines, or on line 17 for a seventeenth band: each check says so of itself, the last one
-- since the count has passed before it. Assumes nothing.
use Prim.Native.Nat.{ℕ, ◌+◌, ◌≤◌}
use native.Mathlib.Omega.{arith}
use mathlib.Core.List.{List, [], ◌∷◌}
use mathlib.Core.Path.{◌≡◌, refl, subst}
use borrow.Author.Tests.{leb-true, ltb-true}
use lib.Dec.{leb, ltb, eqb}
use lib.ListN.{length}
use Rattle.std.specs.Prelude.{Ok, Err}
use Rattle.lists.proofs.Slices.{take_most}
use Rattle.refusal.specs.Checks.{unless, first_of}
use Rattle.refusal.specs.declared.Rule.{Rule}
use Rattle.refusal.specs.declared.Rule.TheVariants.{SamplingTable}
use Rattle.refusal.specs.Verdict.{Verdict}
use Rattle.refusal.specs.Verdict.{Accepted, Refused}
use Rattle.refusal.proofs.Firsts.{test_holds}
use Rattle.refusal.proofs.Refusals.{RefusedBy, by_first, by_unless}
use Rattle.sampling.specs.declared.Band.{Band}
use Rattle.sampling.specs.declared.Table.{Table}
use Rattle.sampling.specs.Entries.{TableEntries, table_entries}
use Rattle.sampling.specs.Sampling.{band}
use Rattle.sampling.specs.Rules.{band_keeps, bands_verdict, last_highest, table_verdict}

-- of each check, where those before it accept
abbrev InTurn : (Rule → ℕ → Type 0) → List Verdict → Type 0
InTurn P [] = Unit {0}
InTurn P (v ∷ checks) = RefusedBy P v × (v ≡ Accepted → InTurn P checks)

in_turn : (P : Rule → ℕ → Type 0) (checks : List Verdict) → InTurn P checks → RefusedBy P (first_of checks)
in_turn P [] h = tt
in_turn P (Ok _ ∷ checks) h = in_turn P checks (h.1 refl)
in_turn P (Err refusal ∷ checks) h = h.0

module _ (t : TableEntries) where
  abbrev On : Rule → ℕ → Type 0
  On rule line = (rule ≡ SamplingTable) × (1 ≤ line) × (length t.bands ≤ 16 → line ≤ 17)

  by_lines : (line : ℕ) (before : Band) (bs : List Band) → 1 ≤ line → line + length bs ≤ 1 + length t.bands → RefusedBy On (bands_verdict line before bs)
  unfolding bands_verdict
  by_lines line before [] low high = tt
  by_lines line before (b ∷ bs) low high =
      by_first On (unless (band_keeps before b) SamplingTable line ∷ bands_verdict (line + 1) b bs ∷ [])
      (by_unless On (band_keeps before b) SamplingTable line (refl, low, λ h. omega arith), (by_lines (line + 1) b bs (omega arith) (omega arith), tt))

  by_table : RefusedBy On (table_verdict t)
  unfolding table_verdict
  by_table =
      let some_band = ltb 0 t.count in
      let few_bands = leb t.count 16 in
      let ends = eqb (last_highest 0 t.bands) 1000000 in
      in_turn On
      (unless some_band SamplingTable 1
      ∷ bands_verdict 1 (band 0 0) t.bands
      ∷ unless few_bands SamplingTable 17
      ∷ unless ends SamplingTable t.count
      ∷ []) (
        by_unless On some_band SamplingTable 1 (refl, omega arith, λ h. omega arith),
        λ some. (
          by_lines 1 (band 0 0) t.bands (omega arith) (omega arith),
          λ lines. (
            by_unless On few_bands SamplingTable 17 (refl, omega arith, λ h. omega arith),
            λ few.
                let low = ltb-true 0 t.count (test_holds some_band SamplingTable 1 some) in
                let high = leb-true t.count 16 (test_holds few_bands SamplingTable 17 few) in
                (by_unless On ends SamplingTable t.count (refl, low, λ h. omega arith), λ e. tt),
          ),
        ),
      )

  pub refused_by_12 : (rule : Rule) (line : ℕ) → table_verdict t ≡ Refused rule line → (rule ≡ SamplingTable) × (1 ≤ line) × (length t.bands ≤ 16 → line ≤ 17)
  refused_by_12 rule line e = subst (RefusedBy On) e by_table

-- a record holds sixteen bands
pub record_line : (table : Table) → length table.bands ≡ 16 → (rule : Rule) (line : ℕ) → table_verdict (table_entries table) ≡ Refused rule line → line ≤ 17
record_line table held rule line e =
    (refused_by_12 (table_entries table) rule line e).2 (omega (arith, (take_most table.count table.bands).1))
