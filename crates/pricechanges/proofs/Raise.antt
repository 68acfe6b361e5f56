-- The award at raised prices: the divisions are the same, and each costs no less. Assumes nothing.
use Prim.Native.Nat.{ℕ}
use mathlib.Core.List.{List}
use mathlib.Core.Logic.{◌↔◌}
use Rattle.lists.specs.Pairwise.{Pairwise}
use Rattle.lists.proofs.Pairwise.{pairwise_from, pairwise_map}
use Rattle.book.specs.Entries.{BookEntries}
use Rattle.supply.specs.Supply.{supply_of, supplies_of}
use Rattle.supply.proofs.Compared.{ComparedSupply}
use Rattle.divisions.specs.Division.{Division}
use Rattle.divisions.specs.NoDearer.{BookNoDearer}
use Rattle.pricechanges.specs.Raise.{RaisedBid, Raised}
use Rattle.pricechanges.proofs.Prices.{AtMost, raised_supply}
use Rattle.pricechanges.proofs.Divisions.{SameOffers, same_divisions, costs_no_more}

module _ (b b' : BookEntries) (raised : Raised b b') where
  no_more : Pairwise (ComparedSupply AtMost) (supplies_of b.bids) (supplies_of b'.bids)
  no_more = pairwise_map supply_of (ComparedSupply AtMost) b.bids b'.bids (pairwise_from RaisedBid _ raised_supply b.bids b'.bids raised.bids)

  same_offers : Pairwise SameOffers (supplies_of b.bids) (supplies_of b'.bids)
  same_offers = pairwise_from (ComparedSupply AtMost) SameOffers (λ ss ss' c. c.offered) (supplies_of b.bids) (supplies_of b'.bids) no_more

  -- the divisions are the same
  pub raise_divisions : (rs : List ℕ) → Division b.order (supplies_of b.bids) rs ↔ Division b'.order (supplies_of b'.bids) rs
  raise_divisions rs = rw raised.order (same_divisions b.order (supplies_of b.bids) (supplies_of b'.bids) same_offers rs)

  pub raise_no_dearer : BookNoDearer b b'
  raise_no_dearer rs d =
      let division = (raise_divisions rs).1 d in
      (rs, division, costs_no_more (supplies_of b.bids) (supplies_of b'.bids) no_more rs division.allocation)
