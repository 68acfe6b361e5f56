-- Demand 3's words for the award, with those of document 02, change 5. That `IsAward` fixes it is proved in
-- proofs/Award.antt; that at most one bidder of it stands strictly inside, in choices/proofs/OneInside.antt.
use Rattle.std.specs.Prelude.{ℕ, ◌+◌, ◌<◌, cond, List, [], ◌∷◌, ◌⊎◌, ◌≡◌, take, get_or, ◌<ℤ◌}
use Rattle.book.specs.declared.Segment.{Segment}
use Rattle.book.specs.declared.Order.{Order}
use Rattle.supply.specs.Supply.{stands_inside}
use Rattle.supply.specs.Allocation.{bought, cost_of}
use Rattle.divisions.specs.Award.{Priced}
use Rattle.divisions.specs.Division.{Division}

-- rs gives less than xs to the first bidder at whom the two differ; `bidder` is its index in book order, from 0
pub record GivesLess (rs xs : List ℕ) : Type 0 where
  pub bidder : ℕ
  pub same_before : take bidder rs ≡ take bidder xs
  pub less : get_or rs bidder 0 < get_or xs bidder 0

-- rs has more blanks than xs; or as many, and gives less to the first bidder at whom the two differ
abbrev pub LosesTie : List ℕ → List ℕ → Type 0
LosesTie rs xs = (bought xs < bought rs) ⊎ ((bought rs ≡ bought xs) × GivesLess rs xs)

-- rs costs more than the award; or it costs the same, and loses the tie
abbrev pub Worse : List (List Segment) → List ℕ → Priced → Type 0
Worse supplies rs award =
    (award.cost <ℤ cost_of supplies rs) ⊎ ((cost_of supplies rs ≡ award.cost) × LosesTie rs award.quantities)

-- the award is a division, with its cost and its blanks, and every other division is worse
pub record IsAward (order : Order) (supplies : List (List Segment)) (award : Priced) : Type 0 where
  pub division : Division order supplies award.quantities
  pub cost : award.cost ≡ cost_of supplies award.quantities
  pub blanks : award.blanks ≡ bought award.quantities
  pub others : (rs : List ℕ) → Division order supplies rs → (rs ≡ award.quantities) ⊎ Worse supplies rs award

-- how many bidders stand strictly inside one of their segments
unfoldable pub inside_count : List (List Segment) → List ℕ → ℕ
inside_count [] rs = 0
inside_count (ss ∷ supplies) [] = 0
inside_count (ss ∷ supplies) (r ∷ rs) = cond (stands_inside ss r) 1 0 + inside_count supplies rs
