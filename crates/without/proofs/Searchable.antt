-- An accepted book less a bid has what the search asks of a book. Assumes nothing.
use Prim.Native.Nat.{ℕ}
use native.Mathlib.Omega.{arith}
use mathlib.Core.Path.{◌≡◌}
use Rattle.lists.proofs.Removed.{all_removed}
use Rattle.refusal.specs.Verdict.{Accepted}
use Rattle.book.specs.declared.Book.{Book}
use Rattle.book.specs.Entries.{BookEntries, book_entries}
use Rattle.book.specs.Rules.{book_verdict}
use Rattle.book.specs.Accepted.{AcceptedBid}
use Rattle.book.proofs.Accepted.{book_accepted, all_accepted}
use Rattle.search.specs.Searchable.{Searchable}
use Rattle.without.specs.Without.{book_without}

module _ (b : BookEntries) (accepted : book_verdict b ≡ Accepted) where
  searchable_less : (at : ℕ) → Searchable (book_without at b)
  unfolding book_without
  searchable_less at = record {
    few = omega (arith, (book_accepted b accepted).count_high);
    bids = all_removed AcceptedBid at b.bids (all_accepted b accepted);
  }

  pub searchable_without : (at : ℕ) (left : Book) → book_entries left ≡ book_without at b → Searchable (book_entries left)
  searchable_without at left e = rw e (searchable_less at)
