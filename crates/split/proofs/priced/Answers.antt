-- The quantities before `i` are on offer and added up with their prices, so those left decide; the first fault is the answer.
use borrow.Author.Tests.{leb-true, leb-false}
use Rattle.std.proofs.Common.{Err, ◌≡◌, ◌≤◌, ◌<◌, ◌+◌, ℕ, true, List, length, get_or, map, sym, ap, ◌∙◌, arith}
use Rattle.std.proofs.lemmas.Result.{err_from_is_err_and}
use Rattle.lists.proofs.Slices.{length_held}
use Rattle.refusal.specs.declared.Rule.TheVariants.{SplitQuantity}
use Rattle.refusal.specs.Verdict.{Accepted, Refused}
use Rattle.book.specs.Entries.{BidEntries, bid_entries, book_entries}
use Rattle.book.specs.Rules.{book_verdict}
use Rattle.book.specs.Accepted.{AcceptedBid}
use Rattle.book.proofs.Records.{no_bid}
use Rattle.supply.specs.Supply.{supply_of, supplies_of, offers, price_at}
use Rattle.supply.specs.Allocation.{cost_of}
use Rattle.supply.specs.Meets.{meets}
use Rattle.supply.proofs.Offers.{offered, not_offered}
use Rattle.supply.proofs.Accepted.{supply_small}
use Rattle.split.specs.Split.{quantities_verdict}
use Rattle.split.proofs.Steps.{book_refused, stopped, priced_lem, refused_none, refused_test, none_there, one_there, passed_test}
use Rattle.split.proofs.Left.{left_all, missing, off, sum_fits, left_next, too_long, complete, whole_cost, whole_sum, few_listed, accepted_listed}
use Rattle.split.proofs.priced.Goals as goal
use Rattle.split.proofs.priced.Goals.{After-listed-bid-items, In-loop-i, In_ok-ok_or-2}

-- The bids listed are those of the book, at most eight, and each is accepted.

accepted : (c : After-listed-bid-items) → book_verdict (book_entries c.args.book) ≡ Accepted
accepted c = sym c.in_ok-check.ensures

eight : (c : After-listed-bid-items) → length c.args.book.bids ≡ 8
eight c = search (length_held, c.well_formed)

few : (c : After-listed-bid-items) → (length c.listed-bid-items.result.now ≡ c.args.book.count) × (c.args.book.count ≤ 8)
few c = few_listed c.args.book (accepted c) _ c.listed-bid-items.ensures (eight c)

bids : (c : After-listed-bid-items) → map bid_entries c.listed-bid-items.result.now ≡ (book_entries c.args.book).bids
bids c = ap (map bid_entries) c.listed-bid-items.ensures

verdict : (c : After-listed-bid-items)
    → quantities_verdict 2 (book_entries c.args.book).bids c.args.quantities.now
    ≡ quantities_verdict 2 (map bid_entries c.listed-bid-items.result.now) c.args.quantities.now
verdict c = ap (λ (bs : List BidEntries). quantities_verdict 2 bs c.args.quantities.now) (sym (bids c))

this_accepted : (c : In-loop-i) → AcceptedBid (bid_entries (get_or c.listed-bid-items.result.now c.loop-i.i no_bid))
this_accepted c =
    accepted_listed c.args.book (sym c.in_ok-check.ensures) _ c.listed-bid-items.ensures c.loop-i.i c.loop-i-test.true

-- The quantity of the bid is there, on offer, and its price is that of the supply function.
on_offer : (c : In_ok-ok_or-2)
    → let s = supply_of (bid_entries (get_or c.listed-bid-items.result.now c.loop-i.i no_bid)) in
    let r = get_or c.args.quantities.now c.loop-i.i 0 in
    (c.loop-i.i < length c.args.quantities.now) × (c.in_ok-ok_or.field-0.now ≡ r) × (offers s r ≡ true) × (price_at s r ≡ c.in_ok-ok_or-2.field-0.0)
on_offer c =
    let s = supply_of (bid_entries (get_or c.listed-bid-items.result.now c.loop-i.i no_bid)) in
    let (more, quantity) = one_there _ _ c.get.result c.get.ensures.lookup c.in_ok-ok_or.field-0 c.in_ok-ok_or.ensures.ok_part in
    let (on, price) = offered _ _ c.in_ok-ok_or-2.field-0 (sym c.price_at.ensures ∙ c.in_ok-ok_or-2.ensures.ok_part) in
    (more, quantity, ap (offers s) (sym quantity) ∙ on, ap (price_at s) (sym quantity) ∙ price)

pub returns-in_err-check : goal.returns-in_err-check
returns-in_err-check c =
    let (y, is, same) = err_from_is_err_and c.from_residual.result c.from_residual.ensures.1 in
    book_refused (book_entries c.args.book) c.args.quantities.now c.from_residual.result y is (sym c.check.ensures ∙ c.in_err-check.was ∙ ap Err (sym same))

pub loop-i-init : goal.loop-i-init
loop-i-init c = left_all _ _

pub returns-in_err-ok_or : goal.returns-in_err-ok_or
returns-in_err-ok_or c =
    let s = (goal.at.returns-in_err-ok_or c).After-listed-bid-items in
    let (y, is, same) = err_from_is_err_and c.from_residual-in_err-ok_or.result c.from_residual-in_err-ok_or.ensures.1 in
    let (none, refused) = refused_none c.get.result c.at-refusal.result c.in_err-ok_or.field-0.0 (sym c.ok_or.ensures.value ∙ c.in_err-ok_or.was) in
    let gone = missing c.loop-i.invariant c.loop-i-test.true (none_there _ _ c.get.result c.get.ensures.lookup none) in
    stopped _ _ (accepted s) _ (verdict s ∙ gone) c.from_residual-in_err-ok_or.result y is (same ∙ refused ∙ c.at-refusal.ensures)

pub price_at-requires : goal.price_at-requires
price_at-requires c = this_accepted (goal.at.price_at-requires c).In-loop-i

pub returns-in_err-ok_or-2 : goal.returns-in_err-ok_or-2
returns-in_err-ok_or-2 c =
    let s = (goal.at.returns-in_err-ok_or-2 c).After-listed-bid-items in
    let (y, is, same) = err_from_is_err_and c.from_residual-in_err-ok_or-2.result c.from_residual-in_err-ok_or-2.ensures.1 in
    let (none, refused) = refused_none c.price_at.result c.at-refusal.result c.in_err-ok_or-2.field-0.0 (sym c.ok_or-in-loop-i.ensures.value ∙ c.in_err-ok_or-2.was) in
    let (more, quantity) = one_there _ _ c.get.result c.get.ensures.lookup c.in_ok-ok_or.field-0 c.in_ok-ok_or.ensures.ok_part in
    let absent = ap (offers _) (sym quantity) ∙ not_offered _ _ (sym c.price_at.ensures ∙ none) in
    let gone = off c.loop-i.invariant c.loop-i-test.true more absent in
    stopped _ _ (accepted s) _ (verdict s ∙ gone) c.from_residual-in_err-ok_or-2.result y is (same ∙ refused ∙ c.at-refusal.ensures)

pub add-price-requires : goal.add-price-requires
add-price-requires c =
    let at = goal.at.add-price-requires c in
    let (more, quantity, on, price) = on_offer c in
    let small = supply_small _ (this_accepted at.In-loop-i) _ on in
    sum_fits c.loop-i.invariant c.loop-i-test.true more small _ price (omega (arith, few at.After-listed-bid-items))

pub add-sum-requires : goal.add-sum-requires
add-sum-requires c =
    let at = goal.at.add-sum-requires c in
    let (more, quantity, on, price) = on_offer at.In_ok-ok_or-2 in
    let small = supply_small _ (this_accepted at.In-loop-i) _ on in
    omega (arith, small.quantity, quantity, c.loop-i.invariant.sum_size, few at.After-listed-bid-items)

pub loop-i-preserved : goal.loop-i-preserved
loop-i-preserved c =
    let at = goal.at.loop-i-preserved c in
    let (more, quantity, on, price) = on_offer at.In_ok-ok_or-2 in
    let small = supply_small _ (this_accepted at.In-loop-i) _ on in
    left_next c.loop-i.invariant c.loop-i-test.true more small _ price on c.add-price.result.0 c.add-price.ensures c.add-sum.result.0
    (c.add-sum.ensures ∙ ap (λ (n : ℕ). c.loop-i.sum.0 + n) quantity)

pub overflow_add-book : goal.overflow_add-book
overflow_add-book c = omega (arith, few (goal.at.overflow_add-book c).After-listed-bid-items)

pub returns-in_err-unless : goal.returns-in_err-unless
returns-in_err-unless c =
    let s = (goal.at.returns-in_err-unless c).After-listed-bid-items in
    let (y, is, same) = err_from_is_err_and c.from_residual-in_err-unless.result c.from_residual-in_err-unless.ensures.1 in
    let (over, refused) = refused_test _ _ _ c.in_err-unless.field-0.0 (sym c.unless.ensures ∙ c.in_err-unless.was) in
    let long = leb-false _ _ over in
    let done : c.loop-i.i ≡ c.args.book.count = omega (arith, few s) in
    let gone = too_long c.loop-i.invariant c.loop-i-test.false (omega (arith, few s, long)) in
    stopped _ _ (accepted s) _ (verdict s ∙ gone ∙ ap (λ (n : ℕ). Refused SplitQuantity (2 + n)) done) c.from_residual-in_err-unless.result y is (same ∙ refused)

pub returns : goal.returns
returns c =
    let s = (goal.at.returns c).After-listed-bid-items in
    let short = leb-true _ _ (passed_test _ _ _ (sym c.unless.ensures ∙ c.in_ok-unless.was)) in
    let all = c.loop-i-test.false in
    let none : length c.args.quantities.now ≤ c.loop-i.i = omega (arith, few s, short) in
    let left = c.loop-i.invariant in
    priced_lem _ _ (accepted s) (verdict s ∙ complete left all none) c.loop-i.price
    (ap (λ bs. cost_of (supplies_of bs) c.args.quantities.now) (sym (bids s)) ∙ whole_cost left all none) c.meets.result
    (c.meets.ensures ∙ ap (meets c.args.book.order) (sym (whole_sum left all none)))
