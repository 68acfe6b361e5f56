-- A text that is read step by step: its length, its lines from the first byte on, that nothing is left over, the rules. What a `?` gives on
-- at each step, and the record in the end, is the outcome of the text. Assumes nothing.
use Prim.Native.Nat.{ℕ, ◌≤◌}
use native.Mathlib.Omega.{arith}
use mathlib.Core.List.{List}
use mathlib.Core.Path.{◌≡◌, refl, sym}
use borrow.Author.Tests.{leb-true, leb-false, eqb-true, eqb-false}
use lib.Dec.{leb, eqb}
use lib.ListN.{length}
use Rattle.std.specs.Prelude.{Result, Ok, Err, IsErrAnd}
use Rattle.refusal.specs.Checks.{unless}
use Rattle.refusal.specs.declared.Refusal.{Refusal}
use Rattle.refusal.specs.declared.Rule.TheVariants.{TextLength, Shape}
use Rattle.refusal.specs.Verdict.{Accepted}
use Rattle.refusal.proofs.Firsts.{test_holds}
use Rattle.forms.specs.Place.{Found, Stops}
use Rattle.scanner.specs.declared.Reader.{Reader}
use Rattle.scanner.specs.declared.Stop.{Stop}
use Rattle.scanner.specs.Scans.{Scans, ScansAs}
use Rattle.textreading.proofs.Kind.{Kind}
use Rattle.textreading.proofs.Answers.{read_long, read_stopped, read_ended, read_whole}
use Rattle.textreading.proofs.Outcome.{outcome, text_refused, test_refused, rules_refused, rules_passed}

module _ {A R C : Type 0} (k : Kind A R C) (t : List ℕ) where
  -- what a `?` gives on where it met the refusal
  abbrev pub Given : Refusal → Type 0
  Given refusal = (out : Result R Refusal) → IsErrAnd out (λ e. e ≡ refusal) → out ≡ outcome k (k.read_of t)

  pub too_long : (refusal : Refusal) → Err refusal ≡ unless (leb (length t) 4096) TextLength 4096 → Given refusal
  too_long = test_refused k t (leb (length t) 4096) TextLength 4096 (λ q. read_long k t (leb-false (length t) 4096 q))

  module _
      (fits : Accepted ≡ unless (leb (length t) 4096) TextLength 4096)
      (from : Reader) (text : from.text.now ≡ t) (start : from.at ≡ 0) (next : Reader) where
    few : length t ≤ 4096
    few = leb-true (length t) 4096 (test_holds _ _ _ (sym fits))

    pub stopped : (stop : Stop) → Scans k.form from (Err stop) next → Given (record { rule = Shape; place = stop.at })
    stopped stop s =
        let stops : Stops k.form t 0 stop.at = rw (text, start) at s.parsed.0 in
        text_refused k t Shape stop.at (read_stopped k t few stop.at stops) (record { rule = Shape; place = stop.at }) refl

    module _ (r : R) (lines : ScansAs k.form k.record_of from (Ok r) next) where
      found : Found k.form t 0 lines.0 next.at
      found = rw (text, start) at lines.2.parsed

      pub goes_on : (refusal : Refusal) → Err refusal ≡ unless (eqb next.at (length t)) Shape next.at → Given refusal
      goes_on =
          test_refused k t (eqb next.at (length t)) Shape next.at
          (λ q. let other = eqb-false next.at (length t) q in read_ended k t few lines.0 next.at found (omega (arith, other, found.to)))

      module _ (ended : Accepted ≡ unless (eqb next.at (length t)) Shape next.at) where
        whole : k.answer_of lines.0 ≡ k.read_of t
        whole =
            let all = eqb-true next.at (length t) (test_holds _ _ _ (sym ended)) in read_whole k t few lines.0 next.at found (omega (arith, all))

        pub broken : (refusal : Refusal) → Err refusal ≡ k.verdict_of (k.entries_of r) → Given refusal
        broken = rules_refused k t lines.0 r lines.1 whole

        pub passed : Accepted ≡ k.verdict_of (k.entries_of r) → Ok r ≡ outcome k (k.read_of t)
        passed = rules_passed k t lines.0 r lines.1 whole
