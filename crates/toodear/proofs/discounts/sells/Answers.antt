-- The bidder sells what the award with the discount has at the index of its bid, and nothing where there is no award.
use lib.Dec.{ltb}
use Rattle.std.specs.Ordering.{is_lt, nat_cmp}
use Rattle.std.proofs.lemmas.Grind.{common_steps}
use Rattle.std.proofs.lemmas.Bool.Decides.{nat_tests}
use Rattle.std.proofs.Common.{ℕ, ◌≡◌, ◌≤◌, ◌<◌, length, arith, ◌∙◌}
use Rattle.lists.proofs.Slices.{length_held}
use Rattle.discount.proofs.Bidder.{named_record}
use Rattle.toodear.proofs.Awards.{sells_none, sells_some}
use Rattle.toodear.proofs.discounts.sells.Goals as goal
use Rattle.toodear.proofs.discounts.sells.Goals.{Start}

bid : (c : Start) → (c.args.at < c.args.book.count) × (c.args.book.count ≤ 8)
bid c =
    let eight : length c.args.book.bids ≡ 8 = search (length_held, c.well_formed) in
    named_record c.args.book c.requires.bidder c.args.at c.requires.accepted eight c.requires.named

-- the order of amounts is that of their numbers
less : (a b : ℕ) → is_lt (nat_cmp a b) ≡ ltb a b
less a b = grind (arith, common_steps, nat_tests)

pub returns-in-None : goal.returns-in-None
returns-in-None c = sells_none c.args.book c.args.at c.args.cents.0 c.in-None.ensures

pub offset_bounds-best-at : goal.offset_bounds-best-at
offset_bounds-best-at c = omega (arith, bid (goal.at.offset_bounds-best-at c).Start)

pub bounds-best-at : goal.bounds-best-at
bounds-best-at c = omega (arith, bid (goal.at.bounds-best-at c).Start)

pub returns-in-Some : goal.returns-in-Some
returns-in-Some c bidder named =
    c.lt.ensures ∙ less 0 _ ∙ sells_some c.args.book c.args.at c.args.cents.0 c.in-Some.best c.in-Some.ensures (bid (goal.at.returns-in-Some c).Start).0 bidder named
