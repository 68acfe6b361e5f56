-- The supply functions of a book's bids along a loop. Assumes nothing.
use Prim.Native.Nat.{ℕ, ◌+◌, ◌≤◌, ◌<◌}
use native.Mathlib.Omega.{arith}
use mathlib.Core.List.{List, [], ◌∷◌, map}
use mathlib.Core.Path.{◌≡◌, ap, sym, ◌∙◌}
use lib.ListN.{length, get_or, take, drop, length-map, get_or-map, drop_of_length-le}
use Rattle.lists.proofs.Slices.{drop_next}
use Rattle.book.specs.declared.Segment.{Segment}
use Rattle.book.specs.declared.Bid.{Bid}
use Rattle.book.specs.Entries.{BidEntries, bid_entries}
use Rattle.book.proofs.Records.{no_bid}
use Rattle.book.proofs.Bids.{length_entries, entry_at}
use Rattle.supply.specs.Supply.{supply_of, supplies_of}

module _ (bids : List Bid) (n : ℕ) (held : n ≤ length bids) where
  abbrev entries : List BidEntries
  entries = map bid_entries (take n bids)

  pub length_supplies : length (supplies_of entries) ≡ n
  length_supplies = length-map entries supply_of ∙ length_entries bids n held

  supply_at : (i : ℕ) → i < n → get_or (supplies_of entries) i (supply_of (bid_entries no_bid)) ≡ supply_of (bid_entries (get_or bids i no_bid))
  supply_at i h = get_or-map supply_of entries i (bid_entries no_bid) ∙ ap supply_of (entry_at bids n held i h)

  -- from the bidder in turn on
  pub supplies_next : (i : ℕ) → i < n → drop i (supplies_of entries) ≡ supply_of (bid_entries (get_or bids i no_bid)) ∷ drop (i + 1) (supplies_of entries)
  supplies_next i h =
      let within : i < length (supplies_of entries) = rw length_supplies h in
      drop_next (supplies_of entries) i (supply_of (bid_entries no_bid)) within
      ∙ ap (λ (ss : List Segment). ss ∷ drop (i + 1) (supplies_of entries)) (supply_at i h)

  pub supply_of_lem : (i : ℕ) → i < n → get_or (supplies_of entries) i [] ≡ supply_of (bid_entries (get_or bids i no_bid))
  supply_of_lem i h =
      let within : i < length (supplies_of entries) = rw length_supplies h in
      ap (λ (left : List (List Segment)). get_or left 0 []) (sym (drop_next (supplies_of entries) i [] within) ∙ supplies_next i h)

  -- after the last
  pub supplies_done : (at : ℕ) → n ≤ at → drop at (supplies_of entries) ≡ []
  supplies_done at h =
      let all : length (supplies_of entries) ≤ at = omega (arith, length_supplies) in
      drop_of_length-le (supplies_of entries) all
