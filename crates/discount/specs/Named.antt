-- Which bid is the named bidder's: of an accepted book at most one.
use Rattle.std.specs.Prelude.{ℕ, zero, suc, true, false, List, [], ◌∷◌, ◌≡◌}
use Rattle.lists.specs.All.{All}
use Rattle.book.specs.Entries.{BidEntries}
use Rattle.discount.specs.Discount.{is_of}

-- the bid with index i is of this bidder, and no other is
abbrev pub Named : ℕ → List BidEntries → ℕ → Type 0
Named bidder [] i = ⊥
Named bidder (b ∷ bs) zero = (is_of bidder b ≡ true) × All (λ c. is_of bidder c ≡ false) bs
Named bidder (b ∷ bs) (suc i) = (is_of bidder b ≡ false) × Named bidder bs i
