-- The rows made so far are those of the bids passed, and the others are blank.
use lib.Seq.{get_or-take, length-take-le}
use Rattle.std.proofs.Common.{◌≡◌, ◌≤◌, ◌<◌, List, length, get_or, ap, ap₂, sym, subst, ◌∙◌, arith}
use Rattle.std.proofs.lemmas.Grind.{common_steps}
use Rattle.lists.proofs.Slices.{length_held, take_most}
use Rattle.book.specs.declared.Bid.{Bid}
use Rattle.book.specs.Entries.{bid_entries}
use Rattle.book.specs.Accepted.{AcceptedBid}
use Rattle.book.proofs.Records.{no_bid}
use Rattle.book.proofs.Accepted.{few_bids, bid_at_lem}
use Rattle.sampling.specs.Entries.{table_entries}
use Rattle.award.specs.declared.Total.{Total}
use Rattle.award.specs.Award.{row_of}
use Rattle.clearing.proofs.Made.{made_next, made_all}
use Rattle.clearing.proofs.rows.Goals as goal
use Rattle.clearing.proofs.rows.Goals.{Start, In-loop-i}

held : (c : Start) → length c.args.book.bids ≡ 8
held c = search (length_held, c.well_formed)

quantities_held : (c : Start) → length c.args.award.quantities ≡ 8
quantities_held c = grind (arith, common_steps)

few : (c : Start) → c.args.book.count ≤ 8
few c = few_bids c.args.book c.requires.accepted (held c)

-- the bid listed is that of the record
within : (c : In-loop-i) → c.loop-i.i < c.args.book.count
within c =
    let here = c.loop-i-test.true in
    omega (arith, (take_most c.args.book.count c.args.book.bids).0, ap length c.listed-bid-items.ensures)

same : (c : In-loop-i) → get_or c.listed-bid-items.result.now c.loop-i.i no_bid ≡ get_or c.args.book.bids c.loop-i.i no_bid
same c = ap (λ (bs : List Bid). get_or bs c.loop-i.i no_bid) c.listed-bid-items.ensures ∙ get_or-take c.args.book.count c.args.book.bids c.loop-i.i no_bid (within c)

pub row_of-requires : goal.row_of-requires
row_of-requires c =
    let at = goal.at.row_of-requires c in
    subst (λ (b : Bid). AcceptedBid (bid_entries b)) (sym (same at.In-loop-i))
    (bid_at_lem c.args.book c.requires.accepted (held at.Start) c.loop-i.i (within at.In-loop-i))

pub loop-i-preserved : goal.loop-i-preserved
loop-i-preserved c =
    let at = goal.at.loop-i-preserved c in
    let row =
    ap₂ (λ (b : Bid) (t : Total). row_of (table_entries c.args.table) (bid_entries b) (get_or c.args.award.quantities c.loop-i.i (record { 0 = 0 })).0 t)
    (same at.In-loop-i) c.total_beside-total.ensures in
    made_next _ _ _ (few at.Start) (held at.Start) (quantities_held at.Start) c.loop-i.i (within at.In-loop-i) _ _ c.loop-i.invariant (c.row_of.ensures ∙ row)

pub returns : goal.returns
returns c =
    let s = (goal.at.returns c).Start in
    let b = c.args.book in
    let count = length-take-le b.count b.bids (omega (arith, few s, held s)) in
    made_all _ b c.args.award.quantities (few s) (held s) (quantities_held s) _ _ c.loop-i.invariant
    (omega (arith, c.loop-i-test.false, ap length c.listed-bid-items.ensures, count))
