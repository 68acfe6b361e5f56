-- The bids of a book along a loop. Assumes nothing.
use Prim.Native.Nat.{ℕ, ◌+◌, ◌≤◌, ◌<◌}
use mathlib.Core.List.{List, [], ◌∷◌, map}
use mathlib.Core.Path.{◌≡◌, ap, ◌∙◌}
use lib.ListN.{length, get_or, take, length-map, get_or-map}
use lib.Seq.{slice, get_or-take, length-take-le}
use Rattle.lists.proofs.Slices.{slice_next, slice_done}
use Rattle.refusal.proofs.Firsts.{only}
use Rattle.refusal.specs.declared.Rule.{Rule}
use Rattle.refusal.specs.Verdict.{Accepted, Refused}
use Rattle.book.specs.declared.Bid.{Bid}
use Rattle.book.specs.Entries.{BidEntries, bid_entries}
use Rattle.book.specs.Rules.{bid_verdict, bids_verdict}
use Rattle.book.proofs.Records.{no_bid}

-- what is left of the bids, as their entries
abbrev pub entries_from : ℕ → ℕ → List Bid → List BidEntries
entries_from i n bs = map bid_entries (slice i n bs)

pub entries_next : (bs : List Bid) (i n : ℕ) → i < n → n ≤ length bs
    → entries_from i n bs ≡ bid_entries (get_or bs i no_bid) ∷ entries_from (i + 1) n bs
entries_next bs i n h k = ap (map bid_entries) (slice_next bs i n no_bid h k)

pub entries_done : (bs : List Bid) (i n : ℕ) → i ≤ n → n ≤ i → entries_from i n bs ≡ []
entries_done bs i n h k = ap (map bid_entries) (slice_done bs i n h k)

-- the bids that a record holds, as their entries
module _ (bs : List Bid) (n : ℕ) (held : n ≤ length bs) where
  pub length_entries : length (map bid_entries (take n bs)) ≡ n
  length_entries = length-map (take n bs) bid_entries ∙ length-take-le n bs held

  pub entry_at : (i : ℕ) → i < n → get_or (map bid_entries (take n bs)) i (bid_entries no_bid) ≡ bid_entries (get_or bs i no_bid)
  entry_at i h = get_or-map bid_entries (take n bs) i no_bid ∙ ap bid_entries (get_or-take n bs i no_bid h)

module _ (line before : ℕ) (bs : List Bid) (i n : ℕ) (more : i < n) (held : n ≤ length bs) where
  abbrev here : Bid
  here = get_or bs i no_bid

  pub bids_next : bid_verdict line before (bid_entries here) ≡ Accepted
      → bids_verdict line before (entries_from i n bs) ≡ bids_verdict (line + 1) here.bidder (entries_from (i + 1) n bs)
  unfolding bids_verdict
  bids_next e = ap (bids_verdict line before) (entries_next bs i n more held) ∙ rw e (only _)

  pub bids_stop : (rule : Rule) (place : ℕ) → bid_verdict line before (bid_entries here) ≡ Refused rule place
      → bids_verdict line before (entries_from i n bs) ≡ Refused rule place
  unfolding bids_verdict
  bids_stop rule place e = ap (bids_verdict line before) (entries_next bs i n more held) ∙ rw e

pub bids_done : (line before : ℕ) (bs : List Bid) (i n : ℕ) → i ≤ n → n ≤ i → bids_verdict line before (entries_from i n bs) ≡ Accepted
unfolding bids_verdict
bids_done line before bs i n h k = ap (bids_verdict line before) (entries_done bs i n h k)
