-- For the contract of `find`, which is private: what it tells of a quantity and a supply function.
use Rattle.std.specs.Prelude.{ℕ, ◌<◌, true, false, Option, Some, None, List, ◌≡◌, length, get_or}
use Rattle.book.specs.declared.Segment.{Segment}
use Rattle.supply.specs.Supply.{segment0, on, offers}

-- r is on segment j, and on none before it
pub record FirstOn (ss : List Segment) (r j : ℕ) : Type 0 where
  pub there : j < length ss
  pub here : on (get_or ss j segment0) r ≡ true
  pub before : (k : ℕ) → k < j → on (get_or ss k segment0) r ≡ false

abbrev pub FoundAt : List Segment → ℕ → Option ℕ → Type 0
FoundAt ss r (Some j) = FirstOn ss r j
FoundAt ss r None = offers ss r ≡ false
