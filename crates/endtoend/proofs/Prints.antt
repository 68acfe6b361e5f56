-- What a program prints of an award, in the words of demand 3. Assumes nothing.
use mathlib.Core.List.{List}
use mathlib.Core.Path.{◌≡◌, refl}
use Prim.Native.Nat.{ℕ}
use Rattle.std.specs.Prelude.{Ok, Err}
use Rattle.refusal.specs.Verdict.{Verdict}
use Rattle.sampling.specs.Entries.{TableEntries}
use Rattle.award.specs.declared.Award.{Award}
use Rattle.bookanswers.specs.BookAnswers.{book_of}
use Rattle.tender.specs.FromText.{clear_text_sampled, printed_as}
use Rattle.endtoend.specs.Outcome.{PrintOutcome, its_text, its_refusal}
use Rattle.endtoend.proofs.ClearedText.{accepted_text, was_read, its_award}
use Rattle.endtoend.proofs.Whole.{nothing_written}

pub prints : (text : Award → List ℕ) (table : TableEntries) (t : List ℕ) → PrintOutcome text table t (clear_text_sampled table t)
unfolding printed_as
prints text table t = go (clear_text_sampled table t).verdict refl
  where
    go : (v : Verdict) → (clear_text_sampled table t).verdict ≡ v → PrintOutcome text table t (clear_text_sampled table t)
    go (Ok _) e = its_text (book_of t) (accepted_text t (was_read table t e)) (clear_text_sampled table t).award (its_award table t e) (rw e)
    go (Err refusal) e = its_refusal refusal.rule refusal.place (λ out. nothing_written text (clear_text_sampled table t) out refusal.rule refusal.place e) (rw e)
