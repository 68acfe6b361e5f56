-- What an answer of clearing tells: an accepted one has an award, and beside a refusal stands none. Assumes nothing.
use Prim.Native.Nat.{ℕ}
use mathlib.Core.Option.{Option, some, none}
use mathlib.Core.Path.{◌≡◌, refl, ap}
use Rattle.std.specs.Prelude.{Ok, Err}
use Rattle.refusal.specs.declared.Rule.{Rule}
use Rattle.refusal.specs.declared.Rule.TheVariants.{NotCovered}
use Rattle.refusal.specs.Verdict.{Verdict}
use Rattle.refusal.specs.Verdict.{Accepted, Refused}
use Rattle.book.specs.declared.Book.{Book}
use Rattle.book.specs.Entries.{BookEntries, book_entries, SameBook}
use Rattle.book.specs.Rules.{book_verdict}
use Rattle.sampling.specs.Entries.{TableEntries}
use Rattle.divisions.specs.Award.{Priced, award_of_book}
use Rattle.award.specs.Award.{no_award}
use Rattle.clearing.specs.declared.Clearing.{Clearing}
use Rattle.clearing.specs.Clearing.{clear_sampled}
use Rattle.clearing.proofs.Answers.{rules_first, no_division, covered, division}
use Rattle.awardtheorems.proofs.Apart.{accepted_refused}

-- the same book, the same answer
pub same_clear : (table : TableEntries) (a b : Book) → SameBook a b → clear_sampled table (book_entries a) ≡ clear_sampled table (book_entries b)
same_clear table a b e = ap (clear_sampled table) e

module _ (table : TableEntries) (b : BookEntries) where
  -- an answer that is accepted has an award
  pub record Cleared : Type 0 where
    pub accepted : book_verdict b ≡ Accepted
    pub award : Priced
    pub is_award : award_of_book b ≡ some award
    pub answer : clear_sampled table b ≡ covered table b award

  pub cleared : (clear_sampled table b).verdict ≡ Accepted → Cleared
  cleared h = go (book_verdict b) refl (award_of_book b) refl
    where
      go : (v : Verdict) → book_verdict b ≡ v → (o : Option Priced) → award_of_book b ≡ o → Cleared
      go (Err refusal) e o f = absurd (accepted_refused (clear_sampled table b).verdict refusal.rule refusal.place h (ap (λ (c : Clearing). c.verdict) (rules_first table b refusal.rule refusal.place e)))
      go (Ok _) e none f = absurd (accepted_refused (clear_sampled table b).verdict NotCovered 0 h (ap (λ (c : Clearing). c.verdict) (no_division table b e f)))
      go (Ok _) e (some award) f = record { accepted = e; award = award; is_award = f; answer = division table b award e f }

  -- with each refusal the award is all zeros and `none`
  pub refused_blank : (rule : Rule) (place : ℕ) → (clear_sampled table b).verdict ≡ Refused rule place → (clear_sampled table b).award ≡ no_award
  refused_blank rule place h = go (book_verdict b) refl (award_of_book b) refl
    where
      go : (v : Verdict) → book_verdict b ≡ v → (o : Option Priced) → award_of_book b ≡ o → (clear_sampled table b).award ≡ no_award
      go (Err refusal) e o f = ap (λ (c : Clearing). c.award) (rules_first table b refusal.rule refusal.place e)
      go (Ok _) e none f = ap (λ (c : Clearing). c.award) (no_division table b e f)
      go (Ok _) e (some award) f = absurd (accepted_refused (clear_sampled table b).verdict rule place (ap (λ (c : Clearing). c.verdict) (division table b award e f)) h)
