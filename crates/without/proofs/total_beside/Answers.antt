-- Where the bidder sells nothing, the others' award costs what the award costs; else the total is that of the book less its bid.
use borrow.Author.Tests.{eqb-true}
use Rattle.std.proofs.Common.{◌≡◌, ◌≤◌, length, get_or, sym, ◌∙◌, arith}
use Rattle.lists.proofs.Slices.{length_held}
use Rattle.book.specs.Entries.{book_entries}
use Rattle.book.proofs.Bids.{length_entries}
use Rattle.book.proofs.Accepted.{few_bids}
use Rattle.search.proofs.Found.{quantity_at}
use Rattle.without.proofs.Same.{same_total}
use Rattle.without.proofs.total_beside.Goals as goal

pub offset_bounds-award-at : goal.offset_bounds-award-at
offset_bounds-award-at c =
    let held : length c.args.book.bids ≡ 8 = search (length_held, c.well_formed) in
    omega (arith, few_bids c.args.book c.requires.accepted held)

pub bounds-award-at : goal.bounds-award-at
bounds-award-at c =
    let held : length c.args.book.bids ≡ 8 = search (length_held, c.well_formed) in
    omega (arith, few_bids c.args.book c.requires.accepted held)

pub returns-then-sells_nothing : goal.returns-then-sells_nothing
returns-then-sells_nothing c =
    let s = c.args in
    let b = s.book in
    let held : length b.bids ≡ 8 = search (length_held, c.well_formed) in
    let few : b.count ≤ 8 = few_bids b c.requires.accepted held in
    let bids : length (book_entries b).bids ≡ b.count = length_entries b.bids b.count (omega arith) in
    let nothing = eqb-true (get_or s.award.quantities s.at (record { 0 = 0 })).0 0 (sym c.eq-sells_nothing.ensures ∙ c.if-sells_nothing.true) in
    let sold = quantity_at b.count s.award.quantities _ c.requires.within ∙ nothing in
    sym (same_total (book_entries b) _ c.requires.is_award _ (omega arith) sold)
