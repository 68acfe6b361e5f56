-- Each choice that is compared has a segment of every bidder, so what is kept is of the book.
use Rattle.std.proofs.Common.{◌≡◌, ℕ, ◌≤◌, Option, length, get_or, ◌∙◌, arith}
use Rattle.book.specs.declared.Book.{Book}
use Rattle.book.specs.Entries.{bid_entries, book_entries}
use Rattle.book.proofs.Records.{no_bid}
use Rattle.supply.specs.Supply.{supply_of, supplies_of}
use Rattle.supply.proofs.Supplies.{length_supplies}
use Rattle.choices.specs.Leaf.{Started}
use Rattle.choices.specs.Search.{leaf}
use Rattle.choices.proofs.Kept.{started_leaf}
use Rattle.choicerecord.specs.declared.Choice.{Choice}
use Rattle.choicerecord.specs.Records.{chosen}
use Rattle.comparison.specs.declared.PricedDivision.{PricedDivision}
use Rattle.comparison.specs.Records.{found}
use Rattle.search.specs.ChosenFrom.{HasBidder, ExchangedFrom}
use Rattle.search.specs.Searchable.{ImprovableAt}
use Rattle.search.proofs.Choosing.{has_bidder, from_exchanged, complete_leaf}
use Rattle.search.proofs.Steps.{for_all}
use Rattle.search.proofs.first.first_at.Goals as goal

module _ {book : Book} {c : Choice} {at : ℕ} {best : Option PricedDivision} (p : ImprovableAt book c at best) (eight : length book.bids ≡ 8) where
  held : book.count ≤ length book.bids
  held = omega (arith, p.started_with.searchable.few)

  asked : HasBidder c at (get_or book.bids at no_bid)
  asked = has_bidder book p.started_with.searchable held p.choice at p.bidder at p.bidder

  -- after one more of these choices
  next : (other : Choice) → ExchangedFrom (supply_of (bid_entries (get_or book.bids at no_bid))) c at other → (r so_far : Option PricedDivision)
      → found other.count r ≡ leaf book.order (chosen other) (found other.count so_far)
      → Started book.order (supplies_of (book_entries book).bids) (found book.count so_far)
      → Started book.order (supplies_of (book_entries book).bids) (found book.count r)
  next other exchanged r so_far e started =
      let from = from_exchanged book p.started_with.searchable held p.choice at p.bidder other exchanged in
      let count : other.count ≡ book.count = from.all ∙ length_supplies book.bids book.count held in
      let best = for_all other.count book.count r so_far (leaf book.order (chosen other)) count e in
      rw best (started_leaf book.order (supplies_of (book_entries book).bids) (chosen other) (found book.count so_far) (complete_leaf from book.order) started)

pub with_number-other-requires : goal.with_number-other-requires
with_number-other-requires c = asked c.requires (omega arith)

pub overflow_step-number : goal.overflow_step-number
overflow_step-number c =
    let a = asked c.requires (omega arith) in
    omega (arith, a.accepted.count_high)

pub loop-number-preserved : goal.loop-number-preserved
loop-number-preserved c =
    next c.requires (omega arith) _ c.with_number-other.ensures _ _ c.leaf-so_far.ensures c.loop-number.invariant

pub returns-2 : goal.returns-2
returns-2 c = next c.requires (omega arith) _ c.with_number-other.ensures _ _ c.leaf-so_far.ensures c.loop-number.invariant
