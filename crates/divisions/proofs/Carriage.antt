-- Where no bid has a carriage, divisions, costs and award are those that the curves alone give: stored books keep their awards. Assumes
-- nothing.
use Prim.Native.Nat.{ℕ}
use mathlib.Core.List.{List}
use mathlib.Core.Path.{◌≡◌, sym, ap, subst}
use Rattle.lists.specs.All.{All}
use Rattle.book.specs.declared.Segment.{Segment}
use Rattle.book.specs.Entries.{BookEntries}
use Rattle.supply.specs.Supply.{supplies_of}
use Rattle.supply.specs.Curve.{curves_of, NoCarriage}
use Rattle.supply.specs.Allocation.{cost_of}
use Rattle.supply.proofs.Carriage.{supplies_curves}
use Rattle.divisions.specs.Award.{award_of, award_of_book}
use Rattle.divisions.specs.Division.{Division}
use Rattle.divisions.specs.Stored.{ByCurves}

pub stored_keep : (b : BookEntries) → All NoCarriage b.bids → ByCurves b
unfolding award_of_book
stored_keep b none =
    let same : supplies_of b.bids ≡ curves_of b.bids = supplies_curves b.bids none in
    let divides : List ℕ → List (List Segment) → Type 0 = λ rs supplies. Division b.order supplies rs in
    record {
      divisions = λ rs. (λ d. subst (divides rs) same d, λ d. subst (divides rs) (sym same) d);
      costs = λ rs. ap (λ (supplies : List (List Segment)). cost_of supplies rs) same;
      award = ap (award_of b.order) same;
    }
