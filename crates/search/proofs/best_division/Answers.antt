-- The search from no choice, with the classes of the book and from a division of a complete choice or none, finds the award.
use Rattle.std.proofs.Common.{◌≡◌, ◌≤◌, List, [], length, drop, refl, sym, ◌∙◌, inl, arith}
use mathlib.Core.Option.{Option as Maybe, none}
use Rattle.std.specs.Prelude.{None}
use Rattle.lists.proofs.Slices.{length_held}
use Rattle.book.specs.declared.Segment.{Segment}
use Rattle.book.specs.declared.Order.{Order}
use Rattle.book.specs.Entries.{book_entries}
use Rattle.supply.specs.Supply.{supplies_of}
use Rattle.supply.proofs.Accepted.{sound_supplies}
use Rattle.divisions.specs.Award.{Priced}
use Rattle.choices.specs.Search.{leaf, search as search_from}
use Rattle.choices.specs.Leaf.{Started}
use Rattle.choices.proofs.Kept.{from_started}
use Rattle.choices.proofs.Finds.{finds}
use Rattle.choicerecord.specs.declared.Choice.{Choice}
use Rattle.choicerecord.specs.Records.{chosen}
use Rattle.choicerecord.proofs.Choosing.{nothing_chosen}
use Rattle.comparison.specs.Records.{found}
use Rattle.completions.proofs.Classes.{graded_empty}
use Rattle.search.proofs.Steps.{for_all, bidders_done}
use Rattle.search.proofs.best_division.Goals as goal

-- what the search from no choice gives is that of the model
from_no_choice : (order : Order) (supplies : List (List Segment)) (c : Choice) (o : Maybe Priced) → c.count ≡ 0
    → search_from order (drop c.count supplies) (chosen c) o ≡ search_from order supplies [] o
from_no_choice order supplies c o e = rw (nothing_chosen c e, e)

pub returns-then-book-eq0 : goal.returns-then-book-eq0
returns-then-book-eq0 c =
    let book = c.args.book in
    let order = book.order in
    let supplies = supplies_of (book_entries book).bids in
    let empty = c.nothing_sold-nothing in
    let held : book.count ≤ length book.bids = omega arith in
    let same : empty.result.count ≡ book.count = omega (arith, empty.ensures.count_value) in
    let started : Started order supplies none = inl refl in
    for_all empty.result.count book.count c.leaf.result None (leaf order (chosen empty.result)) same c.leaf.ensures
    ∙ sym (bidders_done book.bids book.count held order empty.result.count (chosen empty.result) none (omega arith))
    ∙ from_no_choice order supplies empty.result none empty.ensures.count_value
    ∙ from_started order supplies none started
    ∙ finds order supplies (sound_supplies (book_entries book).bids c.requires.bids)

pub invariant_of-table : goal.invariant_of-table
invariant_of-table c = record { graded = graded_empty 288 }

pub search-requires-clause-bounding : goal.search-requires-clause-bounding
search-requires-clause-bounding c = record {
  searchable = c.requires;
  held = search (length_held, c.well_formed);
  capped = c.begin-best.ensures.capped;
  surveyed = c.survey.ensures;
}

pub search-requires-clause-searching : goal.search-requires-clause-searching
search-requires-clause-searching c =
    let empty = c.nothing_sold-nothing in
    let nothing = nothing_chosen empty.result empty.ensures.count_value in
    record { further = omega (arith, empty.ensures.count_value); charges_of = rw nothing (record { first = refl; second = refl }) }

pub returns : goal.returns
returns c =
    let book = c.args.book in
    let order = book.order in
    let supplies = supplies_of (book_entries book).bids in
    let empty = c.nothing_sold-nothing in
    let o = found book.count c.begin-best.result.best in
    c.search.ensures
    ∙ from_no_choice order supplies empty.result o empty.ensures.count_value
    ∙ from_started order supplies o c.begin-best.ensures.started
    ∙ finds order supplies (sound_supplies (book_entries book).bids c.requires.bids)
