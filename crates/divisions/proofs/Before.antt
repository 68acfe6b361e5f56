-- With allowance 0 all divisions have as many blanks, so that ties are decided as before. Assumes nothing.
use Prim.Native.Nat.{ℕ}
use native.Mathlib.Omega.{arith}
use mathlib.Core.List.{List}
use mathlib.Core.Logic.{◌⊎◌, inl, inr, ◌↔◌}
use mathlib.Core.Option.{some}
use mathlib.Core.Path.{◌≡◌, sym, ◌∙◌}
use lib.Signed.{◌<ℤ◌}
use Rattle.lists.specs.All.{All}
use Rattle.book.specs.declared.Segment.{Segment}
use Rattle.book.specs.declared.Order.{Order}
use Rattle.book.specs.Entries.{BookEntries}
use Rattle.supply.specs.Curve.{curves_of, NoCarriage}
use Rattle.supply.specs.Allocation.{bought, cost_of}
use Rattle.supply.proofs.Orders.{meets_low, meets_high, meets_when}
use Rattle.divisions.specs.Division.{Division}
use Rattle.divisions.specs.Award.{Priced, award_of_book}
use Rattle.divisions.specs.IsAward.{GivesLess, Worse, IsAward}
use Rattle.divisions.specs.Before.{DivisionBefore, IsAwardBefore, AsBefore}
use Rattle.divisions.proofs.Award.{no_award_iff, award_is, only_award}
use Rattle.divisions.proofs.Carriage.{stored_keep}

module _ (order : Order) (supplies : List (List Segment)) (exact : order.allowance.0 ≡ 0) where
  abbrev demand : ℕ
  demand = order.demand.0

  to : (rs : List ℕ) → Division order supplies rs → DivisionBefore demand supplies rs
  to rs d = record {
    allocation = d.allocation;
    sum = omega (arith, meets_low order (bought rs) d.sum, meets_high order (bought rs) d.sum);
  }

  from : (rs : List ℕ) → DivisionBefore demand supplies rs → Division order supplies rs
  from rs d = record { allocation = d.allocation; sum = meets_when order (bought rs) (omega (arith, d.sum)) (omega (arith, d.sum)) }

  abbrev WorseBefore : List ℕ → Priced → Type 0
  WorseBefore rs award =
      (award.cost <ℤ cost_of supplies rs) ⊎ ((cost_of supplies rs ≡ award.cost) × GivesLess rs award.quantities)

  module _ (award : Priced) where
    worse_to : (rs : List ℕ) → bought rs ≡ demand → bought award.quantities ≡ demand
        → (rs ≡ award.quantities) ⊎ Worse supplies rs award → (rs ≡ award.quantities) ⊎ WorseBefore rs award
    worse_to rs e f (inl h) = inl h
    worse_to rs e f (inr (inl h)) = inr (inl h)
    worse_to rs e f (inr (inr (c, inl h))) = absurd (omega arith)
    worse_to rs e f (inr (inr (c, inr h))) = inr (inr (c, h.1))

    worse_from : (rs : List ℕ) → bought rs ≡ demand → bought award.quantities ≡ demand
        → (rs ≡ award.quantities) ⊎ WorseBefore rs award → (rs ≡ award.quantities) ⊎ Worse supplies rs award
    worse_from rs e f (inl h) = inl h
    worse_from rs e f (inr (inl h)) = inr (inl h)
    worse_from rs e f (inr (inr (c, h))) = inr (inr (c, inr (e ∙ sym f, h)))

    award_to : IsAward order supplies award → IsAwardBefore demand supplies award × (award.blanks ≡ demand)
    award_to a =
        let d = to award.quantities a.division in (
          record {
            division = d;
            cost = a.cost;
            others = λ rs h. worse_to rs h.sum d.sum (a.others rs (from rs h));
          },
          a.blanks ∙ d.sum,
        )

    award_from : IsAwardBefore demand supplies award → award.blanks ≡ demand → IsAward order supplies award
    award_from a blanks = record {
      division = from award.quantities a.division;
      cost = a.cost;
      blanks = blanks ∙ sym a.division.sum;
      others = λ rs h. worse_from rs (to rs h).sum a.division.sum (a.others rs (to rs h));
    }

  pub as_before : AsBefore order supplies
  as_before = record {
    divisions = λ rs. (to rs, from rs);
    award = λ award. (
      λ e. award_to award (award_is order supplies award e),
      λ h. only_award order supplies award (award_from award h.0 h.1),
    );
    none = (
      λ e rs d. (no_award_iff order supplies).0 e rs (from rs d),
      λ f. (no_award_iff order supplies).1 (λ rs d. f rs (to rs d)),
    );
  }

-- a stored book, without carriage and without allowance, has the award that its curves alone had
pub stored_before : (b : BookEntries) → All NoCarriage b.bids → b.order.allowance.0 ≡ 0 → (award : Priced)
    → (award_of_book b ≡ some award) ↔ (IsAwardBefore b.order.demand.0 (curves_of b.bids) award × (award.blanks ≡ b.order.demand.0))
stored_before b stored exact award =
    let same = (stored_keep b stored).award in
    let (to, from) = (as_before b.order (curves_of b.bids) exact).award award in
    (λ e. to (sym same ∙ e), λ h. same ∙ from h)
