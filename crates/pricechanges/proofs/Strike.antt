-- A struck bidder: what the others sell without it they could sell beside it, for no more. Assumes nothing.
use Prim.Native.Nat.{ℕ, ◌<◌}
use native.Mathlib.Omega.{arith}
use mathlib.Core.List.{List}
use lib.ListN.{length, length-map}
use Rattle.lists.proofs.Removed.{removed, map_removed}
use Rattle.book.specs.declared.Order.{Order}
use Rattle.book.specs.Entries.{BidEntries}
use Rattle.supply.specs.Supply.{supply_of, supplies_of}
use Rattle.divisions.specs.NoDearer.{NoDearer}
use Rattle.divisions.proofs.Without.{all_sell_nothing, no_dearer_with}

pub strike_no_dearer : (order : Order) (bids : List BidEntries) (i : ℕ) → i < length bids → NoDearer order (supplies_of bids) order (supplies_of (removed i bids))
strike_no_dearer order bids i h =
    let bidder : i < length (supplies_of bids) = omega (arith, length-map bids supply_of) in
    rw (map_removed supply_of i bids) (no_dearer_with order (supplies_of bids) (all_sell_nothing bids) i bidder)
