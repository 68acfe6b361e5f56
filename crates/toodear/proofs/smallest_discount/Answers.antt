-- The checks stand in the order of the refusals, and of a bidder who is in the accepted book the rest is answered.
use Rattle.std.specs.Option.{ok_or}
use Rattle.std.proofs.Common.{◌≡◌, Err, sym, ap, subst, ◌∙◌}
use Rattle.std.proofs.lemmas.Result.{err_from_is_err_and}
use Rattle.std.proofs.lemmas.Option.{MatchOption-at_some, MatchOption-at_none}
use Rattle.book.specs.Entries.{book_entries}
use Rattle.discount.specs.Named.{Named}
use Rattle.toodear.specs.Asked.{PlaceOf}
use Rattle.toodear.proofs.Places.{named_there, nowhere}
use Rattle.toodear.proofs.Answers.{own_refusal, not_in_book}
use Rattle.toodear.proofs.smallest_discount.Goals as goal
use Rattle.toodear.proofs.smallest_discount.Goals.{In_ok-at}

-- the bid found is the bidder's
named : (c : In_ok-at) → Named c.args.bidder (book_entries c.args.book).bids c.in_ok-at.at
named c =
    let place = subst (λ bids. PlaceOf c.args.bidder bids c.find.result) c.listed.ensures c.find.ensures in
    let (within, here) = MatchOption-at_some _ _ c.in_ok-at.at c.in_ok-at.ensures.ok_part place in
    named_there c.args.book c.args.bidder c.in_ok-at.at (sym c.in_ok-check.ensures) within here

pub returns-in_err-check : goal.returns-in_err-check
returns-in_err-check c =
    let (refusal, is, same) = err_from_is_err_and c.from_residual.result c.from_residual.ensures.1 in
    own_refusal _ c.args.bidder refusal (sym c.check.ensures ∙ c.in_err-check.was ∙ ap Err (sym same)) _ is

pub returns-in_err-at : goal.returns-in_err-at
returns-in_err-at c =
    let (refusal, is, same) = err_from_is_err_and c.from_residual-in_err-at.result c.from_residual-in_err-at.ensures.1 in
    let told = c.in_err-at.ensures.value ∙ ap (λ place. ok_or place c.at.result) c.in_err-at.ensures.ok_part in
    let refused : c.in_err-at.field-0.0 ≡ c.at.result = cc in
    let place = subst (λ bids. PlaceOf c.args.bidder bids c.find.result) c.listed.ensures c.find.ensures in
    not_in_book _ c.args.bidder (sym c.in_ok-check.ensures) (nowhere c.args.bidder _ (MatchOption-at_none _ _ c.in_err-at.ensures.ok_part place)) _
    (is ∙ ap Err (same ∙ refused ∙ c.at.ensures))

pub for_bid-requires : goal.for_bid-requires
for_bid-requires c = record { bidder = c.args.bidder; accepted = sym c.in_ok-check.ensures; named = named (goal.at.for_bid-requires c).In_ok-at }

pub returns : goal.returns
returns c = c.for_bid.ensures c.args.bidder (named (goal.at.returns c).In_ok-at)
