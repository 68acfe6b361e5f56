-- What bidders are not told, since it is false: proofs/Counterexamples.antt has two books for each.
use Rattle.std.specs.Prelude.{ℕ, ◌≤◌, ◌<◌, ◌≤ℤ◌, ◌<ℤ◌}
use Rattle.lists.specs.Pairwise.{ChangedAt}
use Rattle.book.specs.Entries.{BookEntries}
use Rattle.clearing.specs.declared.Clearing.{Clearing}
use Rattle.pricechanges.specs.Changed.{BidChanged, BookChanged}
use Rattle.pricechanges.specs.Discount.{CheaperSegment}
use Rattle.pricetheorems.specs.Told.{Covered, quantity_in, total_in}

-- of a discount of the bidder with index i: that it is awarded more blanks; that no other is awarded fewer; that the total is lower
abbrev pub MoreBlanks : ℕ → Clearing → Clearing → Type 0
MoreBlanks i c c' = Covered c → Covered c' → quantity_in c i < quantity_in c' i

abbrev pub NobodyLoses : ℕ → Clearing → Clearing → Type 0
NobodyLoses i c c' = Covered c → Covered c' → (j : ℕ) → quantity_in c j ≤ quantity_in c' j

abbrev pub LowerTotal : ℕ → Clearing → Clearing → Type 0
LowerTotal i c c' = Covered c → Covered c' → total_in c' <ℤ total_in c

-- of raised prices: that the total is no higher; of a struck bidder: that what was covered still is
abbrev pub NoHigherTotal : Clearing → Clearing → Type 0
NoHigherTotal c c' = Covered c → Covered c' → total_in c' ≤ℤ total_in c

abbrev pub StaysCovered : Clearing → Clearing → Type 0
StaysCovered c c' = Covered c → Covered c'

-- of a discount on one segment alone, that with index j of the bid with index i: that its bidder is awarded no fewer blanks
pub record DiscountedOnce (cents i j : ℕ) (b b' : BookEntries) : Type 0 where
  pub one_cent : 1 ≤ cents
  pub changed : BookChanged (ChangedAt i (BidChanged (ChangedAt j (CheaperSegment cents)))) b b'

abbrev pub NoFewerBlanks : ℕ → Clearing → Clearing → Type 0
NoFewerBlanks i c c' = Covered c → Covered c' → quantity_in c i ≤ quantity_in c' i
