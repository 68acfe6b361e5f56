-- What bidders and buyers are told: document 02, change 7. Of two accepted books, c is what clearing answers for the first and c' what it
-- answers for the second.
use Rattle.std.specs.Prelude.{ℕ, ◌≤◌, ◌<◌, ◌↔◌, ◌≡◌, ℤ, ◌≤ℤ◌}
use Rattle.money.specs.declared.Cents.{Cents}
use Rattle.refusal.specs.declared.Rule.TheVariants.{NotCovered}
use Rattle.refusal.specs.Verdict.{Accepted, Refused}
use Rattle.book.specs.Entries.{BookEntries}
use Rattle.award.specs.declared.Total.TheVariants.{Amount}
use Rattle.award.specs.declared.Award.{Award}
use Rattle.clearing.specs.declared.Clearing.{Clearing}
use Rattle.awardtheorems.specs.Awarded.{row_at}

-- refused by 9, or covered
abbrev pub Uncovered : Clearing → Type 0
Uncovered c = c.verdict ≡ Refused NotCovered 0

abbrev pub Covered : Clearing → Type 0
Covered c = c.verdict ≡ Accepted

-- the blanks that the bidder with index i is awarded, and the total
abbrev pub quantity_in : Clearing → ℕ → ℕ
quantity_in c i = (row_at c.award i).quantity.0

abbrev pub total_in : Clearing → ℤ
total_in c = c.award.total.0

-- one is refused by 9 exactly if the other is
abbrev pub SameCover : Clearing → Clearing → Type 0
SameCover c c' = Uncovered c ↔ Uncovered c'

-- Of a discount of the bidder with index i: one is refused by 9 exactly if the other is, and where they are covered, the bidder is awarded no
-- fewer blanks and the total is no higher.
pub record NothingLost (i : ℕ) (c c' : Clearing) : Type 0 where
  pub cover : SameCover c c'
  pub blanks : Covered c → Covered c' → quantity_in c i ≤ quantity_in c' i
  pub total : Covered c → Covered c' → total_in c' ≤ℤ total_in c

-- Of raised prices and of a struck bidder: what was refused by 9 still is, and where both are covered, the total is no lower. (Of raised prices
-- `SameCover` too.)
pub record NothingSaved (c c' : Clearing) : Type 0 where
  pub uncovered : Uncovered c → Uncovered c'
  pub total : Covered c → Covered c' → total_in c ≤ℤ total_in c'

-- Of the award of one book: no total without a bidder is below its total.
abbrev pub NoLessWithout : BookEntries → Award → Type 0
NoLessWithout b a = (i : ℕ) → i < b.count → (cents : Cents) → (row_at a i).without ≡ Amount cents → a.total.0 ≤ℤ cents.0
