-- A bidder who sells nothing: the total without it is the award's. Assumes nothing.
use Prim.Native.Nat.{ℕ, ◌<◌}
use native.Mathlib.Omega.{arith}
use mathlib.Core.Option.{some}
use mathlib.Core.Path.{◌≡◌, ap, ◌∙◌}
use lib.ListN.{length, get_or, length-map}
use Rattle.lists.proofs.Removed.{map_removed}
use Rattle.book.specs.Entries.{BookEntries}
use Rattle.supply.specs.Supply.{supply_of, supplies_of}
use Rattle.divisions.specs.Award.{Priced, award_of, award_of_book}
use Rattle.divisions.proofs.Without.{all_sell_nothing, same_award}
use Rattle.award.specs.declared.Total.TheVariants.{Amount}
use Rattle.without.specs.Without.{book_without, total_of, total_without}

pub same_total : (b : BookEntries) (award : Priced) → award_of_book b ≡ some award → (i : ℕ) → i < length b.bids → get_or award.quantities i 0 ≡ 0
    → total_without b i ≡ Amount (record { 0 = award.cost })
unfolding award_of_book book_without total_without
same_total b award is_award i bid e =
    let supplies = supplies_of b.bids in
    let bidder : i < length supplies = omega (arith, length-map b.bids supply_of) in
    ap (λ left. total_of (award_of b.order left)) (map_removed supply_of i b.bids)
    ∙ ap total_of (same_award b.order supplies (all_sell_nothing b.bids) i bidder award is_award e)
