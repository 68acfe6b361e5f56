-- What a record gets, case by case, and that the same book gets the same. Assumes nothing.
use Prim.Native.Nat.{ℕ}
use mathlib.Core.Path.{◌≡◌, ap}
use Rattle.refusal.specs.declared.Rule.{Rule}
use Rattle.refusal.specs.Verdict.{Accepted, Refused}
use Rattle.book.specs.declared.Book.{Book}
use Rattle.book.specs.Entries.{BookEntries, book_entries, SameBook}
use Rattle.book.specs.Rules.{book_verdict}
use Rattle.sizes.specs.Sizes.{figures_of, refused_sizes, sizes_of}

module _ (b : BookEntries) where
  pub sizes_accepted : book_verdict b ≡ Accepted → sizes_of b ≡ figures_of b
  unfolding sizes_of
  sizes_accepted e = rw e

  pub sizes_refused : (rule : Rule) (place : ℕ) → book_verdict b ≡ Refused rule place → sizes_of b ≡ refused_sizes (Refused rule place)
  unfolding sizes_of
  sizes_refused rule place e = rw e

pub same_sizes : (a b : Book) → SameBook a b → sizes_of (book_entries a) ≡ sizes_of (book_entries b)
same_sizes a b e = ap sizes_of e
