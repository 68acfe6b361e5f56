-- A complete choice of a book's segments, with one after the other exchanged. Assumes nothing.
use Prim.Native.Nat.{ℕ, zero, suc, ◌≤◌, ◌<◌}
use native.Mathlib.Decide.{ℕ_discrete}
use native.Mathlib.Omega.{arith}
use mathlib.Core.List.{List, [], ◌∷◌, Memᴰ as In}
use mathlib.Core.Path.{◌≡◌}
use lib.ListN.{length, get_or, drop, drop_of_length-le}
use lib.Seq.{drop-cons}
use Rattle.lists.proofs.Latest.{latest_none, latest_next}
use Rattle.book.specs.declared.Segment.{Segment}
use Rattle.book.specs.declared.Order.{Order}
use Rattle.book.specs.declared.Book.{Book}
use Rattle.book.specs.Entries.{bid_entries, book_entries}
use Rattle.book.proofs.Records.{no_bid}
use Rattle.book.proofs.Accepted.{accepted_at}
use Rattle.supply.specs.Supply.{supply_of, supplies_of}
use Rattle.supply.proofs.Supply.{segment_0_in}
use Rattle.supply.proofs.Supplies.{length_supplies, supply_of_lem}
use Rattle.divisions.specs.Award.{Priced}
use Rattle.choices.specs.Leaf.{Leaf}
use Rattle.choicerecord.specs.declared.Choice.{Choice}
use Rattle.choicerecord.specs.Records.{segment_at, first_segments, chosen, SellsNothing, Exchanged}
use Rattle.search.specs.ChosenFrom.{ChosenFrom, HasBidder, ExchangedFrom}
use Rattle.search.specs.Searchable.{Searchable}

-- one segment in the place of another
pub exchanged_from : {c r : Choice} {i : ℕ} {s : Segment} → r.count ≡ c.count → Exchanged c i s r → (supply : List Segment) → In s supply
    → ExchangedFrom supply c i r
exchanged_from count x supply h = record { count = count; here = rw x.here h; others = x.others }

-- A book's bids: segment 0 of each, and then another segment of one.
module _ (book : Book) (searchable : Searchable (book_entries book)) (held : book.count ≤ length book.bids) where
  abbrev supplies : List (List Segment)
  supplies = supplies_of (book_entries book).bids

  pub from_nothing : (c : Choice) → c.count ≡ book.count → SellsNothing c → ChosenFrom supplies c
  from_nothing c e nothing = record {
    all = rw (length_supplies book.bids book.count held) e;
    each = λ i h. rw (nothing.each i h, supply_of_lem book.bids book.count held i (omega (arith, e))) (segment_0_in _);
  }

  module _ {c : Choice} (p : ChosenFrom supplies c) (i : ℕ) (further : i < book.count) where
    pub has_bidder : (k : ℕ) → k < book.count → HasBidder c i (get_or book.bids k no_bid)
    has_bidder k h = record {
      bidder = omega (arith, p.all, length_supplies book.bids book.count held);
      accepted = accepted_at book.bids book.count held searchable.bids k h;
    }

    pub from_exchanged : (r : Choice) → ExchangedFrom (supply_of (bid_entries (get_or book.bids i no_bid))) c i r → ChosenFrom supplies r
    from_exchanged r x = record { all = rw x.count p.all; each = λ k h. go k h (ℕ_discrete k i) }
      where
        go : (k : ℕ) → k < r.count → Dec (k ≡ i) → In (segment_at r k) (get_or supplies k [])
        go k h (yes e) = rw (e, supply_of_lem book.bids book.count held i further) x.here
        go k h (no e) = rw (x.others k e) (p.each k (omega (arith, x.count)))

-- What a complete choice gives, the search comes to.
module _ {supplies : List (List Segment)} {c : Choice} (p : ChosenFrom supplies c) (order : Order) (d : Priced) where
  reached : (at : ℕ) → at ≤ length supplies → Leaf order (drop at supplies) (first_segments c at) d → Leaf order supplies [] d
  reached zero h l = rw latest_none at l
  reached (suc k) h l =
      let next : Leaf order (drop (suc k) supplies) (segment_at c k ∷ first_segments c k) d = rw latest_next at l in
      reached k (omega arith) (rw (drop-cons supplies k [] h) (segment_at c k, p.each k (omega (arith, p.all)), next))

  pub complete_leaf : Leaf order [] (chosen c) d → Leaf order supplies [] d
  complete_leaf l = let done : drop c.count supplies ≡ [] = drop_of_length-le supplies {i = c.count} (omega (arith, p.all)) in reached c.count (omega (arith, p.all)) (rw done l)
