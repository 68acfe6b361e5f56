-- An award that is answered has at most eight rows. Assumes nothing.
use Prim.Native.Nat.{ℕ, ◌≤◌}
use native.Mathlib.Omega.{arith}
use mathlib.Core.List.{List}
use mathlib.Core.Path.{◌≡◌, refl, sym, subst}
use Rattle.std.specs.Prelude.{Ok, Err}
use Rattle.refusal.specs.Verdict.{Verdict}
use Rattle.refusal.specs.Verdict.{Accepted, Refused}
use Rattle.bookreader.specs.Reading.{read_of}
use Rattle.sampling.specs.Entries.{TableEntries}
use Rattle.tablereader.specs.Reading.{read_table_of}
use Rattle.clearing.specs.declared.Clearing.{Clearing}
use Rattle.awardtheorems.proofs.Counts.{few_rows}
use Rattle.tableanswers.specs.TableAnswers.{table_in}
use Rattle.bookanswers.specs.BookAnswers.{book_of}
use Rattle.tender.specs.FromText.{clear_text_sampled, cleared_by_table}
use Rattle.awardnumbers.specs.Numbers.{FewRows}

pub few : (table : TableEntries) (t : List ℕ) → FewRows (clear_text_sampled table t)
unfolding clear_text_sampled
few table t h = go (read_of t).verdict refl
  where
    go : (v : Verdict) → (read_of t).verdict ≡ v → (clear_text_sampled table t).award.count ≤ 8
    go (Ok _) e = rw e (few_rows (book_of t) table (rw e at h))
    go (Err refusal) e = rw e (omega arith)

-- said of the answer as it is at hand
pub few_answered : (table : TableEntries) (t : List ℕ) (answer : Clearing) → answer ≡ clear_text_sampled table t → FewRows answer
few_answered table t answer e = subst FewRows (sym e) (few table t)

-- by a table that comes as text, refused or not
few_loaded : (s t : List ℕ) → FewRows (cleared_by_table s t)
unfolding cleared_by_table
few_loaded s t h = go (read_table_of s).verdict refl
  where
    go : (v : Verdict) → (read_table_of s).verdict ≡ v → (cleared_by_table s t).award.count ≤ 8
    go (Ok _) e = rw e (few (table_in s) t (rw e at h))
    go (Err refusal) e = rw e (omega arith)

pub few_by_table : (s t : List ℕ) (answer : Clearing) → answer ≡ cleared_by_table s t → FewRows answer
few_by_table s t answer e = subst FewRows (sym e) (few_loaded s t)
