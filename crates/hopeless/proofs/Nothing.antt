-- Where with every class of ways to complete a choice nothing is better than the best so far, the search leaves it as it is. Assumes nothing.
use Prim.Native.Nat.{ℕ, ◌+◌, ◌*◌, ◌≤◌, ◌<◌}
use native.Mathlib.Nat.{mul-le-mul_left}
use native.Mathlib.Omega.{arith}
use mathlib.Core.Bool.{Bool, true}
use mathlib.Core.List.{List}
use mathlib.Core.Logic.{◌⊎◌, inl, inr, ⊎_elim}
use mathlib.Core.Option.{none}
use Rattle.std.specs.Prelude.{Option, Some, None}
use mathlib.Core.Path.{◌≡◌, refl, sym, ap, subst}
use borrow.Author.Tests.{lt-ltb}
use lib.IntN.{ℤ, pos, negsuc, nat_abs}
use lib.ListN.{length, take, length-map}
use lib.Seq.{take-take}
use lib.Signed.{lt_z}
use Rattle.lists.specs.All.{All}
use Rattle.book.specs.declared.Segment.{Segment}
use Rattle.book.specs.declared.Order.{Order}
use Rattle.book.specs.Entries.{BidEntries}
use Rattle.book.specs.Accepted.{AcceptedBid}
use Rattle.supply.specs.Supply.{supply_of, supplies_of}
use Rattle.supply.specs.Allocation.{bought}
use Rattle.supply.specs.Sound.{SoundSegment}
use Rattle.supply.proofs.Sound.{SoundSupply}
use Rattle.supply.proofs.Accepted.{sound_supplies}
use Rattle.divisions.specs.Award.{Priced, gives_more, better}
use Rattle.divisions.proofs.Order.{Wins, better_cost, better_tie}
use Rattle.divisions.proofs.Signed as Signed
use Rattle.divisions.proofs.IsBest.{NotBetter}
use Rattle.choices.specs.Choice.{placed, ends_in_order}
use Rattle.choices.specs.Leaf.{Leaf}
use Rattle.choices.specs.Search.{search}
use Rattle.choices.proofs.Fill.{cost, box_widths}
use Rattle.choices.proofs.Placed.{placed_bought, ends_widths}
use Rattle.choices.proofs.Chosen.{chosen_box, chosen_each, chosen_length}
use Rattle.choices.proofs.Divides.{together, Divides, divides}
use Rattle.choices.proofs.Kept.{none_better, none_there}
use Rattle.choices.proofs.Behind.{behind}
use Rattle.comparison.specs.declared.PricedDivision.{PricedDivision}
use Rattle.comparison.specs.Records.{blanks_in, division_in, found}
use Rattle.charges.specs.declared.Prices.{Prices}
use Rattle.charges.specs.declared.Sums.{Sums}
use Rattle.charges.specs.Charge.{million, charges}
use Rattle.charges.specs.Records.{SumsOf}
use Rattle.charges.proofs.Bound.{charges_below}
use Rattle.completions.specs.Classes.{class_at, class_count, Admits}
use Rattle.hopeless.specs.Hopeless.{WinsTies, Above, least_bought, Closed, empty, passed, short, dear_first, dear_second, NothingBetter}

-- A cost against a sum of prices.

cheaper_than : (z : ℤ) (m : ℕ) → nat_abs z < m → lt_z z (pos m) ≡ true
cheaper_than (pos k) m h = lt-ltb k m h
cheaper_than (negsuc k) m h = refl

no_dearer_than : (z : ℤ) (m : ℕ) → nat_abs z ≤ m → (lt_z z (pos m) ≡ true) ⊎ (z ≡ pos m)
no_dearer_than (pos k) m h = ⊎_elim (λ l. inl (lt-ltb k m l)) (⊎_elim (λ l. inr (ap pos l)) (λ l. absurd (omega arith))) (Signed.order k m)
no_dearer_than (negsuc k) m h = inl refl

-- a division is not better than the best so far, which there is
abbrev Loses : ℕ → Priced → Option PricedDivision → Type 0
Loses n d None = ⊥
Loses n d (Some kept) = NotBetter d (division_in n kept)

-- A choice c for the first of n bidders, and the bids of the others.
module _ (order : Order) (n : ℕ) (prices : Prices) (c : List Segment) (sound : All SoundSegment c) (bids : List BidEntries) (accepted : All AcceptedBid bids)
    (all : length c + length bids ≡ n) (ties : Bool) where
  abbrev supplies : List (List Segment)
  supplies = supplies_of bids

  sound_left : All SoundSupply supplies
  sound_left = sound_supplies bids accepted

  -- a division of the part costs at least what its charges say
  module _ (d : Priced) (p : Divides order supplies c d) where
    abbrev e : List Segment
    e = p.later

    abbrev ys : List ℕ
    ys = p.later_shares

    abbrev price : ℕ
    price = cost c p.extras + cost e ys

    abbrev whole : Priced
    whole = together c p.extras e ys

    bound : (l least : ℕ) → least ≤ whole.blanks → charges order l c + charges order l e + l * least ≤ price + l * (million * n)
    bound l least h =
        let enough = mul-le-mul_left l h in
        let size : length c + length e ≡ n = omega (arith, chosen_length supplies e ys p.chosen, length-map bids supply_of) in
        let blanks = ap (λ (k : ℕ). l * (million * k)) size in
        omega (
          arith,
          enough,
          blanks,
          charges_below order l c p.extras sound p.box (omega (arith, p.not_over)),
          charges_below order l e ys (chosen_each supplies e ys sound_left p.chosen) (chosen_box supplies e ys p.chosen) (omega (arith, p.not_over)),
        )

    -- against the best so far
    module _ (best : PricedDivision) (wins : ties ≡ true → WinsTies order c best) where
      abbrev kept : Priced
      kept = division_in n best

      loses : nat_abs best.cost.0 < price → NotBetter d kept
      loses h = inr (subst (λ (x : Priced). better kept x ≡ true) (sym p.is) (better_cost kept whole (cheaper_than best.cost.0 price h)))

      -- it has at least as many blanks as the best so far
      no_fewer : WinsTies order c best → kept.blanks ≤ whole.blanks
      no_fewer w = omega (arith, w.few, p.enough, placed_bought c p.extras p.box)

      ties_lost : nat_abs best.cost.0 ≤ price → WinsTies order c best → NotBetter d kept
      ties_lost h w =
          let held : take (length c) kept.quantities ≡ take (length c) (blanks_in best.quantities) = take-take (length c) n (blanks_in best.quantities) (omega (arith, all)) in
          let more = behind c p.extras (placed e ys) kept.quantities sound p.box (subst (λ (qs : List ℕ). gives_more qs (ends_in_order c) ≡ true) (sym held) w.more) in
          let won : Wins kept whole = ⊎_elim (λ k. inl k) (⊎_elim (λ k. inr (k, more)) (λ k. absurd (omega (arith, no_fewer w)))) (Signed.order kept.blanks whole.blanks) in
          inr (subst (λ (x : Priced). better kept x ≡ true) (sym p.is)
          (⊎_elim (λ k. better_cost kept whole k) (λ k. better_tie kept whole k won) (no_dearer_than best.cost.0 price h)))

      too_dear : (l least charged : ℕ) → least ≤ whole.blanks → charged ≤ charges order l c + charges order l e
          → Above least n l charged (nat_abs best.cost.0) ties → NotBetter d kept
      too_dear l least charged k h (inl a) = loses (omega (arith, bound l least k))
      too_dear l least charged k h (inr (t, a)) = ties_lost (omega (arith, bound l least k)) (wins t)

    -- it sells the demand at least, and the starts of the choice and what the class has
    at_least : (sums class : Sums) → SumsOf order prices c sums
        → Admits class (bought (placed e ys)) (charges order prices.first.0 e) (charges order prices.second.0 e)
        → least_bought order (sums.low.0 + class.low.0) ≤ whole.blanks
    at_least sums class s a = omega (arith, p.enough, s.low, a.low, placed_bought c p.extras p.box)

    -- its way to complete the choice is of a class that is closed
    verdict : (best : Option PricedDivision) → (ties ≡ true → (kept : PricedDivision) → best ≡ Some kept → WinsTies order c kept) → (sums class : Sums)
        → SumsOf order prices c sums → Admits class (bought (placed e ys)) (charges order prices.first.0 e) (charges order prices.second.0 e)
        → Closed order n prices sums class ties best → Loses n d best
    verdict best wins sums class s a (empty h) = absurd (omega (arith, a.high))
    verdict best wins sums class s a (passed h) = absurd (omega (arith, p.not_over, s.low, a.low, placed_bought c p.extras p.box))
    verdict best wins sums class s a (short h) =
        absurd (omega (arith, p.enough, s.high, a.high, placed_bought c p.extras p.box, box_widths c p.extras p.box, ends_widths c sound))
    verdict best wins sums class s a (dear_first kept is h) =
        let least = at_least sums class s a in
        let dear = too_dear kept (λ t. wins t kept is) prices.first.0 _ (sums.charges.first + class.charges.first) least (omega (arith, s.charges_of.first, a.first)) h in
        rw is dear
    verdict best wins sums class s a (dear_second kept is h) =
        let least = at_least sums class s a in
        let dear = too_dear kept (λ t. wins t kept is) prices.second.0 _ (sums.charges.second + class.charges.second) least (omega (arith, s.charges_of.second, a.second)) h in
        rw is dear

  -- so no division is better
  as_it_is : (best : Option PricedDivision) → ((d : Priced) → Leaf order supplies c d → Loses n d best)
      → search order supplies c (found n best) ≡ found n best
  as_it_is None verdicts = none_there order supplies c none verdicts
  as_it_is (Some kept) verdicts = none_better order supplies c (division_in n kept) verdicts

-- every class is closed
pub nothing_better : (order : Order) (n : ℕ) (prices : Prices) (table : List Sums) (at : ℕ) (sums : Sums) (ties : Bool) (best : Option PricedDivision)
    → at ≤ n → ((left i : ℕ) → at + left ≡ n → i < class_count left → Closed order n prices sums (class_at table (32 * at + i)) ties best)
    → NothingBetter order n prices table at sums ties best
nothing_better order n prices table at sums ties best within closed = record {
  as_it_is = λ c sound size s wins bids accepted all covers.
      let whole : length c + length bids ≡ n = omega arith in
      as_it_is order n prices c sound bids accepted whole ties best
      (λ d leaf.
      let p = divides order (supplies_of bids) c d (sound_supplies bids accepted) sound leaf in
      let h = covers.has p.later p.later_shares p.chosen (omega (arith, p.not_over)) in
      let left : at + length (supplies_of bids) ≡ n = omega (arith, length-map bids supply_of) in
      verdict order n prices c sound bids accepted whole ties d p best wins sums (class_at table (32 * at + h.class)) s h.admits
      (closed (length (supplies_of bids)) h.class left h.within));
}
