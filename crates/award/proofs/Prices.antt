-- The price of a quantity that is on no segment is 0, so an offer or else 0 is the price. Assumes nothing.
use Prim.Native.Nat.{ℕ}
use mathlib.Core.Bool.{Bool, true, false}
use mathlib.Core.List.{List, [], ◌∷◌}
use mathlib.Core.Path.{◌≡◌, refl, sym}
use lib.IntN.{pos}
use Rattle.std.specs.Option.{unwrap_or}
use Rattle.lists.proofs.Tests.{neither_left, neither_right}
use Rattle.book.specs.declared.Segment.{Segment}
use Rattle.supply.specs.Supply.{on, offers, price_at, offer_of}

price_nowhere : (ss : List Segment) (r : ℕ) → offers ss r ≡ false → price_at ss r ≡ pos 0
unfolding offers price_at
price_nowhere [] r e = refl
price_nowhere (s ∷ ss) r e = rw (neither_left (on s r) (offers ss r) e) (price_nowhere ss r (neither_right (on s r) (offers ss r) e))

pub price_or_zero : (ss : List Segment) (r : ℕ) → (unwrap_or (offer_of ss r) (record { 0 = pos 0 })).0 ≡ price_at ss r
unfolding offer_of
price_or_zero ss r = go (offers ss r) refl
  where
    go : (t : Bool) → offers ss r ≡ t → (unwrap_or (offer_of ss r) (record { 0 = pos 0 })).0 ≡ price_at ss r
    go true e = rw e
    go false e = rw e (sym (price_nowhere ss r e))
