-- After the last bidder nothing can be added. Each turn goes to the bidder before: what its classes cover follows from what those after it cover.
use Rattle.std.proofs.Common.{◌≡◌, ◌+◌, ◌*◌, ◌-◌, ◌<◌, ◌≤◌, ℕ, List, length, get_or, arith}
use Rattle.std.proofs.Math.ListN.{set}
use Rattle.lists.proofs.Slices.{length_held}
use Rattle.book.specs.declared.Book.{Book}
use Rattle.book.specs.Entries.{bid_entries}
use Rattle.book.specs.Accepted.{AcceptedBid}
use Rattle.book.proofs.Records.{no_bid}
use Rattle.book.proofs.Accepted.{accepted_at}
use Rattle.supply.proofs.Supplies.{supplies_next, supplies_done}
use Rattle.charges.specs.declared.Prices.{Prices}
use Rattle.charges.specs.declared.Sums.{Sums}
use Rattle.completions.specs.Classes.{Surveyable}
use Rattle.completions.specs.Steps.{Put}
use Rattle.completions.proofs.Putting.{put_set}
use Rattle.completions.proofs.Covering.{nothing, graded_end, from_none, from_next}
use Rattle.completions.proofs.survey.Goals as goal

module _ {book : Book} {prices : Prices} (asked : Surveyable book prices) (eight : length book.bids ≡ 8) where
  held : book.count ≤ length book.bids
  held = omega (arith, asked.few)

  accepted : (i : ℕ) → i < book.count → AcceptedBid (bid_entries (get_or book.bids i no_bid))
  accepted i h = accepted_at book.bids book.count held asked.bids i h

put_end : (table : List Sums) (count : ℕ) → length table ≡ 288 → count ≤ 8 → Put table (32 * count) nothing (set table (32 * count) nothing)
put_end table count held few = put_set table (32 * count) nothing (omega arith)

pub invariant_of-table : goal.invariant_of-table
invariant_of-table c =
    let table = c.args.table.now in
    let count = c.args.book.count in
    record { graded = graded_end count (put_end table.classes count (omega arith) c.requires.few) table.graded }

pub loop-at-init : goal.loop-at-init
loop-at-init c =
    let book = c.args.book in
    let eight : length book.bids ≡ 8 = search (length_held, c.well_formed) in
    from_none _ _ _ book.count (put_end c.args.table.now.classes book.count (omega arith) c.requires.few)
    (supplies_done book.bids book.count (held c.requires eight) book.count (omega arith))

pub segment_of-last-requires : goal.segment_of-last-requires
segment_of-last-requires c =
    let eight : length c.args.book.bids ≡ 8 = search (length_held, c.well_formed) in
    record { accepted = accepted c.requires eight _ (omega arith); within = omega arith }

pub with_bid-requires : goal.with_bid-requires
with_bid-requires c =
    let eight : length c.args.book.bids ≡ 8 = search (length_held, c.well_formed) in
    record { accepted = accepted c.requires eight _ (omega arith); capped = c.requires.capped }

pub loop-at-preserved : goal.loop-at-preserved
loop-at-preserved c =
    let book = c.args.book in
    let eight : length book.bids ≡ 8 = search (length_held, c.well_formed) in
    let at = c.loop-at.at - 1 in
    let turn : at < book.count = omega arith in
    let next : c.loop-at.at ≡ at + 1 = omega arith in
    let left = supplies_next book.bids book.count (held c.requires eight) at turn in
    from_next _ _ _ book.count at _ turn left (rw next at c.loop-at.invariant) c.with_bid.ensures
