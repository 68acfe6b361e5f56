-- Every bidder has a segment of its bid all along: at first segment 0, and then the one with its number.
use Rattle.std.proofs.Common.{◌≡◌, ◌≤◌, length, arith}
use Rattle.lists.proofs.Slices.{length_held}
use Rattle.book.specs.declared.Book.{Book}
use Rattle.book.specs.Entries.{book_entries}
use Rattle.search.specs.Searchable.{Searchable}
use Rattle.search.proofs.Choosing.{from_nothing, has_bidder, from_exchanged}
use Rattle.search.proofs.first.choice_of.Goals as goal

held : (book : Book) → Searchable (book_entries book) → length book.bids ≡ 8 → book.count ≤ length book.bids
held book searchable eight = omega (arith, searchable.few)

pub loop-i-init : goal.loop-i-init
loop-i-init c =
    let b = c.args.book in
    let nothing = c.nothing_sold-c.ensures in
    from_nothing b c.requires (held b c.requires (search (length_held, c.well_formed))) c.nothing_sold-c.result nothing.count_value nothing.sells_nothing

pub with_number-c-requires : goal.with_number-c-requires
with_number-c-requires c =
    let b = c.args.book in
    let i = c.loop-i in
    has_bidder b c.requires (held b c.requires (search (length_held, c.well_formed))) i.invariant i.i c.loop-i-test.true _ (omega arith)

pub loop-i-preserved : goal.loop-i-preserved
loop-i-preserved c =
    let b = c.args.book in
    let i = c.loop-i in
    from_exchanged b c.requires (held b c.requires (search (length_held, c.well_formed))) i.invariant i.i c.loop-i-test.true c.with_number-c.result c.with_number-c.ensures
