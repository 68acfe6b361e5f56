-- The discounts that leave an accepted book are those up to the largest, and what that one sells decides which answer is due.
use borrow.Author.Tests.{le-leb, lt-ltb, eqb-true, eqb-false}
use lib.Dec.{leb, ltb}
use Rattle.std.proofs.Common.{ℕ, Some, Err, ◌≡◌, ◌≤◌, ◌<◌, length, arith, ap, sym, ◌∙◌}
use Rattle.std.specs.Option.{ok_or}
use Rattle.std.proofs.lemmas.Result.{err_from_is_err_and}
use Rattle.comparison.specs.Records.{found}
use Rattle.lists.proofs.Slices.{length_held}
use Rattle.book.specs.Entries.{book_entries}
use Rattle.book.proofs.Accepted.{bid_at_lem}
use Rattle.discount.specs.Discount.{leaves_accepted}
use Rattle.discount.proofs.Bidder.{named_record}
use Rattle.toodear.specs.Asked.{ForBidder, AwardOff}
use Rattle.toodear.proofs.Awards.{no_award_lem, an_award, sells_some, leaves_of}
use Rattle.toodear.proofs.Answers.{not_covered, no_discount, discount_is}
use Rattle.toodear.proofs.for_bid.Goals as goal
use Rattle.toodear.proofs.for_bid.Goals.{Start, After-largest-most, In_ok-best}

held : (c : Start) → length c.args.book.bids ≡ 8
held c = search (length_held, c.well_formed)

bid : (c : Start) → (c.args.at < c.args.book.count) × (c.args.book.count ≤ 8)
bid c = named_record c.args.book c.requires.bidder c.args.at c.requires.accepted (held c) c.requires.named

-- the discounts that leave an accepted book
leaves : (c : After-largest-most)
    → ForBidder c.args.book c.args.at (λ bidder. (cents : ℕ) → leaves_accepted (book_entries c.args.book) bidder cents ≡ leb cents c.largest-most.result.0)
leaves c =
    let eight : length c.args.book.bids ≡ 8 = search (length_held, c.well_formed) in
    leaves_of c.args.book c.args.at c.largest-most.result.0 c.requires.accepted eight c.largest-most.ensures.largest

-- the award with the largest of them
best : (c : In_ok-best) → AwardOff c.args.book c.args.at c.largest-most.result.0 (Some c.in_ok-best.best)
best c bidder named = ap (found c.args.book.count) (sym c.in_ok-best.ensures.ok_part) ∙ c.best_off.ensures bidder named

pub offset_bounds-book-at : goal.offset_bounds-book-at
offset_bounds-book-at c = omega (arith, bid (goal.at.offset_bounds-book-at c).Start)

pub bounds-book-at : goal.bounds-book-at
bounds-book-at c = omega (arith, bid (goal.at.bounds-book-at c).Start)

pub largest-most-requires : goal.largest-most-requires
largest-most-requires c =
    let s = (goal.at.largest-most-requires c).Start in
    bid_at_lem c.args.book c.requires.accepted (held s) c.args.at (bid s).0

pub best_off-requires : goal.best_off-requires
best_off-requires c =
    let p = c.requires in
    let most = c.largest-most.result.0 in
    let left = leaves (goal.at.best_off-requires c).After-largest-most p.bidder p.named most in
    record { bidder = p.bidder; accepted = p.accepted; named = p.named; leaves = left ∙ le-leb most most (omega arith) }

pub returns-in_err-best : goal.returns-in_err-best
returns-in_err-best c bidder named =
    let most = c.largest-most.result.0 in
    let left = leaves (goal.at.returns-in_err-best c).After-largest-most bidder named in
    let (refusal, is, same) = err_from_is_err_and c.from_residual.result c.from_residual.ensures.1 in
    let none = c.in_err-best.ensures.ok_part in
    let told = c.in_err-best.ensures.value ∙ ap (λ division. ok_or division c.at.result) none in
    let refused : c.in_err-best.field-0.0 ≡ c.at.result = cc in
    not_covered (book_entries c.args.book) bidder c.args.at c.requires.accepted named most left
    (no_award_lem c.args.book c.args.at most (λ n m. ap (found c.args.book.count) (sym none) ∙ c.best_off.ensures n m) bidder named)
    _ (is ∙ ap Err (same ∙ refused ∙ c.at.ensures))

pub offset_bounds-best-at : goal.offset_bounds-best-at
offset_bounds-best-at c = omega (arith, bid (goal.at.offset_bounds-best-at c).Start)

pub bounds-best-at : goal.bounds-best-at
bounds-best-at c = omega (arith, bid (goal.at.bounds-best-at c).Start)

pub returns-then-sells_nothing : goal.returns-then-sells_nothing
returns-then-sells_nothing c bidder named =
    let at = goal.at.returns-then-sells_nothing c in
    let most = c.largest-most.result.0 in
    let award = an_award c.args.book c.args.at most c.in_ok-best.best (best at.In_ok-best) bidder named in
    let sold = sells_some c.args.book c.args.at most c.in_ok-best.best (best at.In_ok-best) (bid at.Start).0 bidder named in
    let nothing = eqb-true _ 0 (sym c.eq-sells_nothing.ensures ∙ c.if-sells_nothing.true) in
    no_discount (book_entries c.args.book) bidder c.args.at c.requires.accepted named most (leaves at.After-largest-most bidder named) _ award
    (sym sold ∙ ap (ltb 0) nothing)

pub smallest-requires : goal.smallest-requires
smallest-requires c =
    let at = goal.at.smallest-requires c in
    let p = c.requires in
    let sold = sells_some c.args.book c.args.at c.largest-most.result.0 c.in_ok-best.best (best at.In_ok-best) (bid at.Start).0 p.bidder p.named in
    let some = eqb-false _ 0 (sym c.eq-sells_nothing.ensures ∙ c.if-sells_nothing.false) in
    record {
      bid = p;
      leaves = leaves at.After-largest-most p.bidder p.named;
      small = c.largest-most.ensures.upper_bound;
      sells = sym sold ∙ lt-ltb 0 _ (omega arith);
    }

pub returns : goal.returns
returns c bidder named =
    let at = goal.at.returns c in
    let most = c.largest-most in
    let award = an_award c.args.book c.args.at most.result.0 c.in_ok-best.best (best at.In_ok-best) bidder named in
    discount_is (book_entries c.args.book) bidder c.args.at c.requires.accepted named most.result.0 (leaves at.After-largest-most bidder named) _ award
    most.ensures.upper_bound c.smallest.result.0 (c.smallest.ensures bidder named)
