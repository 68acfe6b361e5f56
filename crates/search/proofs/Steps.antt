-- The search, a step at a time. Assumes nothing.
use Prim.Native.Nat.{ℕ, suc, ◌+◌, ◌≤◌, ◌<◌}
use native.Mathlib.Omega.{arith}
use mathlib.Core.Bool.{true, false}
use mathlib.Core.List.{List, ◌∷◌, map}
use mathlib.Core.Option.{Option as Maybe}
use Rattle.std.specs.Prelude.{Option}
use mathlib.Core.Path.{◌≡◌, ap, subst, ◌∙◌}
use lib.ListN.{length, get_or, take, drop, drop_of_length-le}
use lib.Seq.{drop-cons}
use Rattle.book.specs.declared.Segment.{Segment}
use Rattle.book.specs.declared.Order.{Order}
use Rattle.book.specs.declared.Bid.{Bid}
use Rattle.book.specs.declared.Book.{Book}
use Rattle.book.specs.Entries.{BidEntries, bid_entries}
use Rattle.book.specs.Accepted.{AcceptedBid}
use Rattle.book.proofs.Records.{no_bid}
use Rattle.book.proofs.Accepted.{accepted_at}
use Rattle.supply.specs.Supply.{segment0, supply_of, supplies_of}
use Rattle.supply.proofs.Supplies.{supplies_done, supplies_next}
use Rattle.supply.proofs.Accepted.{sound_segment_at}
use Rattle.divisions.specs.Award.{Priced, pick}
use Rattle.choices.specs.Choice.{fits, filled}
use Rattle.choices.specs.Search.{each, through, leaf, search}
use Rattle.choicerecord.specs.declared.Choice.{Choice}
use Rattle.choicerecord.specs.Records.{Choosable}
use Rattle.comparison.specs.declared.PricedDivision.{PricedDivision}
use Rattle.comparison.specs.Records.{found}
use Rattle.search.specs.Searchable.{ChoiceOf}

-- A complete choice.
module _ (order : Order) (c : List Segment) (o : Maybe Priced) where
  pub unfit : fits order c ≡ false → o ≡ leaf order c o
  unfolding leaf
  unfit e = rw e

  pub fit : fits order c ≡ true → (d : Priced) → d ≡ filled order c → pick o d ≡ leaf order c o
  unfolding leaf
  fit e d f = rw (e, f)

-- for as many bidders as the book has
pub for_all : (n m : ℕ) (r best : Option PricedDivision) (f : Maybe Priced → Maybe Priced) → n ≡ m → found n r ≡ f (found n best)
    → found m r ≡ f (found m best)
for_all n m r best f e h = subst (λ (k : ℕ). found k r ≡ f (found k best)) e h

-- A bidder's segments, from the last to the first.
module _ (f : Segment → Maybe Priced → Maybe Priced) (ss : List Segment) (o : Maybe Priced) where
  pub each_none : (j : ℕ) → length ss ≤ j → o ≡ each f (drop j ss) o
  unfolding each
  each_none j h = rw (drop_of_length-le ss h)

  pub each_next : (j k : ℕ) → j ≡ suc k → k < length ss → (r r' : Maybe Priced) → r ≡ each f (drop j ss) o
      → r' ≡ f (get_or ss k segment0) r → r' ≡ each f (drop k ss) o
  unfolding each
  each_next j k e h r r' p q = rw (drop-cons ss k segment0 h) (q ∙ ap (f (get_or ss k segment0)) (rw e at p))

  pub each_all : (j : ℕ) → j ≡ 0 → (r : Maybe Priced) → r ≡ each f (drop j ss) o → r ≡ each f ss o
  each_all j e r p = rw e at p

-- one of them tried, with the bidders after it
abbrev pub tried : Order → List (List Segment) → List Segment → Segment → Maybe Priced → Maybe Priced
tried order supplies c s = search order supplies (s ∷ c)

-- The bidders from `at` on.
module _ (bids : List Bid) (n : ℕ) (held : n ≤ length bids) where
  abbrev entries : List BidEntries
  entries = map bid_entries (take n bids)

  module _ (order : Order) (at : ℕ) (c : List Segment) (o : Maybe Priced) where
    pub bidders_done : n ≤ at → search order (drop at (supplies_of entries)) c o ≡ leaf order c o
    unfolding search through
    bidders_done h = rw (supplies_done bids n held at h)

    pub bidders_next : at < n
        → search order (drop at (supplies_of entries)) c o
        ≡ each (tried order (drop (at + 1) (supplies_of entries)) c) (supply_of (bid_entries (get_or bids at no_bid))) o
    unfolding search through
    bidders_next h = rw (supplies_next bids n held at h)

-- A choice for the first bidders of a book, and the bidder after them.
module _ {book : Book} {c : Choice} (asked : ChoiceOf book c) (further : c.count < book.count) where
  pub not_full : c.count < 8
  not_full = omega (arith, asked.searchable.few)

  module _ (held : book.count ≤ length book.bids) where
    abbrev bidder : BidEntries
    bidder = bid_entries (get_or book.bids c.count no_bid)

    pub accepted_next : AcceptedBid bidder
    accepted_next = accepted_at book.bids book.count held asked.searchable.bids c.count further

    pub choosable : (j : ℕ) (s : Segment) → j < length (supply_of bidder) → s ≡ get_or (supply_of bidder) j segment0 → Choosable c s
    choosable j s h e =
        record { segment = rw e (sound_segment_at bidder accepted_next j h); not_full = not_full }
