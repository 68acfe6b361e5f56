-- The bid with the index is replaced by the one with its cents off, and it is the only one of its bidder.
use lib.Seq.{take-set-lt}
use Rattle.std.proofs.Common.{ℕ, ◌≡◌, ◌≤◌, ◌<◌, length, get_or, set, take, map, arith, ap, sym, ◌∙◌}
use Rattle.lists.proofs.Slices.{length_held, map_set}
use Rattle.book.specs.declared.Bid.{Bid}
use Rattle.book.specs.declared.Book.{Book}
use Rattle.book.specs.Entries.{bid_entries, book_entries}
use Rattle.book.proofs.Records.{no_bid}
use Rattle.book.proofs.Bids.{entry_at}
use Rattle.book.proofs.Accepted.{bid_at_lem}
use Rattle.discount.specs.Discount.{bid_off, bids_off, book_off}
use Rattle.discount.specs.Asked.{TakenOff}
use Rattle.discount.proofs.Bidder.{off_named, named_record}
use Rattle.discount.proofs.Leaves.{leaves_has}
use Rattle.discount.proofs.book_off.Goals as goal
use Rattle.discount.proofs.book_off.Goals.{Start}

held : (c : Start) → length c.args.book.bids ≡ 8
held c = search (length_held, c.well_formed)

bid : (c : Start) → (c.args.at < c.args.book.count) × (c.args.book.count ≤ 8)
bid c = named_record c.args.book c.requires.bidder c.args.at c.requires.accepted (held c) c.requires.named

-- the bid as the book's entries have it
entry : (c : Start) → get_or (book_entries c.args.book).bids c.args.at (bid_entries no_bid) ≡ bid_entries (get_or c.args.book.bids c.args.at no_bid)
entry c = entry_at c.args.book.bids c.args.book.count (omega (arith, (bid c).1, held c)) c.args.at (bid c).0

-- the bid stored at the index
off_at : (b : Book) (at cents : ℕ) (cheaper : Bid) → at < b.count → bid_entries cheaper ≡ bid_off cents (get_or (book_entries b).bids at (bid_entries no_bid))
    → TakenOff b at cents (record { order = b.order; count = b.count; bids = set b.bids at cheaper })
unfolding book_off
off_at b at cents cheaper h e bidder named =
    let bids : map bid_entries (take b.count (set b.bids at cheaper)) ≡ bids_off bidder cents (book_entries b).bids =
    ap (map bid_entries) (take-set-lt b.count b.bids at cheaper h)
    ∙ map_set bid_entries (take b.count b.bids) at cheaper
    ∙ ap (set (book_entries b).bids at) e
    ∙ sym (off_named bidder cents (book_entries b).bids at (bid_entries no_bid) named) in
    rw bids

pub offset_bounds-book-at : goal.offset_bounds-book-at
offset_bounds-book-at c = omega (arith, bid (goal.at.offset_bounds-book-at c).Start)

pub bounds-book-at : goal.bounds-book-at
bounds-book-at c = omega (arith, bid (goal.at.bounds-book-at c).Start)

pub bid_off-requires : goal.bid_off-requires
bid_off-requires c =
    let s = (goal.at.bid_off-requires c).Start in
    let b = c.args.book in
    let has = leaves_has (book_entries b) c.requires.bidder c.args.at (bid_entries no_bid) c.requires.accepted c.requires.named _ c.requires.leaves in
    record { held = (bid_at_lem b c.requires.accepted (held s) c.args.at (bid s).0).count_high; has = rw (entry s) at has }

pub offset_bounds-changed-at : goal.offset_bounds-changed-at
offset_bounds-changed-at c = omega (arith, bid (goal.at.offset_bounds-changed-at c).Start)

pub bounds-changed-at : goal.bounds-changed-at
bounds-changed-at c = omega (arith, bid (goal.at.bounds-changed-at c).Start)

pub returns : goal.returns
returns c =
    let s = (goal.at.returns c).Start in
    let cheaper = c.bid_off in
    off_at c.args.book c.args.at c.args.cents.0 cheaper.result (bid s).0 (cheaper.ensures ∙ ap (bid_off c.args.cents.0) (sym (entry s)))
