-- What the answer of a split says. Assumes nothing.
use Prim.Native.Nat.{ℕ, ◌+◌, ◌≤◌}
use mathlib.Core.Bool.{true}
use mathlib.Core.List.{List}
use mathlib.Core.Logic.{◌↔◌}
use mathlib.Core.Path.{◌≡◌, sym, ap, ◌∙◌}
use Rattle.book.specs.declared.Book.{Book}
use Rattle.book.specs.Entries.{BookEntries, book_entries, SameBook}
use Rattle.refusal.specs.Verdict.{Accepted}
use Rattle.supply.specs.Supply.{supplies_of}
use Rattle.supply.specs.Allocation.{bought, cost_of}
use Rattle.supply.specs.Meets.{meets}
use Rattle.supply.proofs.Orders.{meets_low, meets_high, meets_when}
use Rattle.split.specs.Split.{split_verdict, split_of}

-- the same book, the same answer
pub same_split : (a b : Book) (rs : List ℕ) → SameBook a b → split_of (book_entries a) rs ≡ split_of (book_entries b) rs
same_split a b rs e = ap (λ (x : BookEntries). split_of x rs) e

module _ (b : BookEntries) (rs : List ℕ) (accepted : split_verdict b rs ≡ Accepted) where
  -- a split that is not refused costs the sum of the supply functions' prices
  pub price_is_sum : (split_of b rs).price.0 ≡ cost_of (supplies_of b.bids) rs
  unfolding split_of
  price_is_sum = rw accepted

  answered : (split_of b rs).meets ≡ meets b.order (bought rs)
  unfolding split_of
  answered = rw accepted

  -- yes if and only if the quantities add up to at least the demand and at most demand plus allowance
  pub yes_iff : ((split_of b rs).meets ≡ true) ↔ ((b.order.demand.0 ≤ bought rs) × (bought rs ≤ b.order.demand.0 + b.order.allowance.0))
  yes_iff = (
    λ e. let yes = sym answered ∙ e in (meets_low b.order (bought rs) yes, meets_high b.order (bought rs) yes),
    λ h. answered ∙ meets_when b.order (bought rs) h.0 h.1,
  )
