-- Each bid listed is accepted, and at most eight are.
use Rattle.std.proofs.Common.{◌≡◌, ◌≤◌, ◌+◌, ◌*◌, ◌^◌, get_or, length, map, ap, sym, ◌∙◌, arith}
use Rattle.lists.specs.All.{All}
use Rattle.lists.proofs.Slices.{length_held, take_most}
use Rattle.book.specs.Entries.{bid_entries, book_entries}
use Rattle.book.specs.Accepted.{AcceptedBid}
use Rattle.book.proofs.Accepted.{all_accepted}
use Rattle.book.proofs.Records.{no_bid}
use Rattle.sizes.specs.Sizes.{choices_of}
use Rattle.sizes.proofs.Multiplied.{choices_next, choices_done, few_segments, product_small, turn_small}
use Rattle.sizes.proofs.choices.Goals as goal
use Rattle.sizes.proofs.choices.Goals.{In-loop-bid}

accepted : (c : In-loop-bid) → All AcceptedBid (map bid_entries c.listed-bid-items.result.now)
accepted c = rw c.listed-bid-items.ensures (all_accepted (book_entries c.args.book) c.requires)

few : (c : In-loop-bid) → length c.listed-bid-items.result.now ≤ 8
few c =
    let eight : length c.args.book.bids ≡ 8 = search (length_held, c.well_formed) in
    rw c.listed-bid-items.ensures (omega (arith, (take_most c.args.book.count c.args.book.bids).1))

-- a turn's product is small, and so are the numbers that it is made of
small : (c : In-loop-bid)
    → let segments = (get_or c.listed-bid-items.result.now c.loop-bid.bid-index no_bid).count in
    (segments ≤ 6) × (c.loop-bid.choices * (segments + 1) ≤ 7 ^ 8)
small c = (
  few_segments _ c.loop-bid.bid-index c.loop-bid.choices (accepted c) c.loop-bid-test.true,
  turn_small _ c.loop-bid.bid-index c.loop-bid.choices (accepted c) c.loop-bid-test.true c.loop-bid.invariant.1 (few c),
)

pub overflow_add-choices : goal.overflow_add-choices
overflow_add-choices c = let (segments, product) = small (goal.at.overflow_add-choices c).In-loop-bid in omega (arith, segments, product)

pub overflow_mul-choices : goal.overflow_mul-choices
overflow_mul-choices c = let (segments, product) = small (goal.at.overflow_mul-choices c).In-loop-bid in omega (arith, segments, product)

pub loop-bid-preserved : goal.loop-bid-preserved
loop-bid-preserved c =
    let t = (goal.at.loop-bid-preserved c).In-loop-bid in (
      c.loop-bid.invariant.0 ∙ choices_next _ c.loop-bid.bid-index c.loop-bid.choices c.loop-bid-test.true,
      product_small _ c.loop-bid.bid-index c.loop-bid.choices (accepted t) c.loop-bid-test.true c.loop-bid.invariant.1,
    )

pub returns : goal.returns
returns c =
    sym (c.loop-bid.invariant.0 ∙ choices_done _ c.loop-bid.bid-index c.loop-bid.choices c.loop-bid-test.false)
    ∙ ap (λ bs. choices_of (map bid_entries bs)) c.listed-bid-items.ensures
