-- Demand 3, of every record that is accepted and of what clearing answers for it. That the record's array of bids has its eight places
-- is what the language guarantees (`held`). Assumes nothing.
use Prim.Native.Nat.{ℕ, ◌≤◌, ◌<◌}
use native.Mathlib.Omega.{arith}
use mathlib.Core.List.{List, [], ◌∷◌}
use mathlib.Core.Logic.{◌↔◌}
use mathlib.Core.Option.{Option, some, none}
use mathlib.Core.Path.{◌≡◌, refl, sym, ap, ◌∙◌, subst}
use lib.IntN.{ℤ}
use lib.ListN.{length, get_or, length-map, drop_of_length-le}
use Rattle.money.specs.declared.Cents.{Cents}
use Rattle.refusal.specs.declared.Rule.TheVariants.{NotCovered}
use Rattle.refusal.specs.Verdict.{Accepted, Refused}
use Rattle.book.specs.declared.Book.{Book}
use Rattle.book.specs.Entries.{BidEntries, BookEntries, bid_entries, book_entries}
use Rattle.book.specs.Rules.{book_verdict}
use Rattle.book.proofs.Records.{no_bid}
use Rattle.book.proofs.Accepted.{book_accepted, all_accepted}
use Rattle.sampling.specs.Entries.{TableEntries}
use Rattle.supply.specs.Supply.{supplies_of}
use Rattle.supply.specs.Allocation.{bought}
use Rattle.supply.proofs.Accepted.{sound_supplies}
use Rattle.supply.proofs.Orders.{meets_low, meets_high}
use Rattle.divisions.specs.Division.{Allocation}
use Rattle.divisions.specs.Award.{Priced, award_of_book}
use Rattle.divisions.specs.IsAward.{inside_count}
use Rattle.divisions.proofs.Award.{as_many, award_is, no_award_iff}
use Rattle.choices.proofs.OneInside.{at_most_one_inside}
use Rattle.award.specs.declared.Total.TheVariants.{Amount, Nothing}
use Rattle.award.specs.declared.Row.{Row}
use Rattle.award.specs.Award.{no_row, row_of}
use Rattle.without.specs.Without.{book_without, total_of, total_without}
use Rattle.without.proofs.Same.{same_total}
use Rattle.clearing.specs.declared.Clearing.{Clearing}
use Rattle.clearing.specs.Clearing.{clear_sampled}
use Rattle.clearing.proofs.Answers.{no_division, division}
use Rattle.awardtheorems.specs.OfBook.{DivisionOf, IsAwardOf}
use Rattle.awardtheorems.specs.Awarded.{row_at, awarded}
use Rattle.awardtheorems.proofs.Apart.{accepted_refused, amount_nothing}
use Rattle.awardtheorems.proofs.Rows.{record_awarded, record_row, record_past}
use Rattle.awardtheorems.proofs.Answers.{Cleared, cleared}
use Rattle.awardtheorems.proofs.Counts.{few_bids, bids_counted}

module _ (b : BookEntries) where
  pub award_of_book_lem : (award : Priced) → award_of_book b ≡ some award → IsAwardOf b award
  unfolding award_of_book
  award_of_book_lem award e = award_is b.order (supplies_of b.bids) award e

  pub no_award_of_book : (award_of_book b ≡ none) ↔ ((rs : List ℕ) → DivisionOf b rs → ⊥)
  unfolding award_of_book
  no_award_of_book = no_award_iff b.order (supplies_of b.bids)

  -- "not covered" is said exactly when there is no division
  pub not_covered_iff : (table : TableEntries) → book_verdict b ≡ Accepted → ((clear_sampled table b).verdict ≡ Refused NotCovered 0) ↔ ((rs : List ℕ) → DivisionOf b rs → ⊥)
  not_covered_iff table e = (λ h. no_award_of_book.0 (none_of (award_of_book b) refl h), λ f. ap (λ (c : Clearing). c.verdict) (no_division table b e (no_award_of_book.1 f)))
    where
      none_of : (o : Option Priced) → award_of_book b ≡ o → (clear_sampled table b).verdict ≡ Refused NotCovered 0 → award_of_book b ≡ none
      none_of none f h = f
      none_of (some award) f h =
          absurd (accepted_refused (clear_sampled table b).verdict NotCovered 0 (ap (λ (c : Clearing). c.verdict) (division table b award e f)) h)

  -- and an accepted book is covered exactly when there is one
  pub covered_iff : (table : TableEntries) → book_verdict b ≡ Accepted → ((clear_sampled table b).verdict ≡ Accepted) ↔ ((rs : List ℕ) × DivisionOf b rs)
  covered_iff table e = (
    λ h. let c = cleared table b h in (c.award.quantities, (award_of_book_lem c.award c.is_award).division),
    λ d. some_of (award_of_book b) refl d.0 d.1,
  )
    where
      some_of : (o : Option Priced) → award_of_book b ≡ o → (rs : List ℕ) → DivisionOf b rs → (clear_sampled table b).verdict ≡ Accepted
      some_of none f rs d = absurd (no_award_of_book.0 f rs d)
      some_of (some award) f rs d = ap (λ (c : Clearing). c.verdict) (division table b award e f)

  -- a total is `none` exactly when there is no division, and else the cost of the award
  total_none_iff : (total_of (award_of_book b) ≡ Nothing) ↔ ((rs : List ℕ) → DivisionOf b rs → ⊥)
  total_none_iff = (λ h. no_award_of_book.0 (none_of (award_of_book b) refl h), λ f. ap total_of (no_award_of_book.1 f))
    where
      none_of : (o : Option Priced) → award_of_book b ≡ o → total_of (award_of_book b) ≡ Nothing → award_of_book b ≡ none
      none_of none f h = f
      none_of (some award) f h = absurd (amount_nothing (total_of (award_of_book b)) (record { 0 = award.cost }) (ap total_of f) h)

  total_amount : (cents : ℤ) → total_of (award_of_book b) ≡ Amount (record { 0 = cents }) → (award : Priced) × IsAwardOf b award × (award.cost ≡ cents)
  total_amount cents h = go (award_of_book b) refl
    where
      go : (o : Option Priced) → award_of_book b ≡ o → (award : Priced) × IsAwardOf b award × (award.cost ≡ cents)
      go none f = absurd (amount_nothing (total_of (award_of_book b)) (record { 0 = cents }) h (ap total_of f))
      go (some award) f =
          let amount : total_of (award_of_book b) ≡ Amount (record { 0 = award.cost }) = ap total_of f in
          let same : ◌≡◌ {A = Cents} (record { 0 = award.cost }) (record { 0 = cents }) = cc in
          (award, award_of_book_lem award f, ap (λ (x : Cents). x.0) same)

-- no bids at all have no division
nobody_sells : (b : BookEntries) (rs : List ℕ) → b.bids ≡ [] → 1 ≤ b.order.demand.0 → DivisionOf b rs → ⊥
unfolding bought
nobody_sells b rs nobody some_demand d = go rs (subst (λ (bs : List BidEntries). Allocation (supplies_of bs) rs) nobody d.allocation) (meets_low b.order (bought rs) d.sum)
  where
    go : (rs : List ℕ) → Allocation [] rs → b.order.demand.0 ≤ bought rs → ⊥
    go [] a e = omega arith
    go (r ∷ rs) a e = a

module _ (table : TableEntries) (book : Book) (held : length book.bids ≡ 8) where
  abbrev b : BookEntries
  b = book_entries book

  abbrev answer : Clearing
  answer = clear_sampled table b

  module _ (accepted : answer.verdict ≡ Accepted) where
    c : Cleared table b
    c = cleared table b accepted

    is_award : IsAwardOf b c.award
    is_award = award_of_book_lem b c.award c.is_award

    many : length c.award.quantities ≡ length b.bids
    many = as_many (supplies_of b.bids) c.award.quantities is_award.division.allocation ∙ length-map b.bids _

    says : awarded answer.award ≡ c.award
    says =
        ap (λ (x : Clearing). awarded x.award) c.answer
        ∙ record_awarded table b (few_bids b c.accepted) (bids_counted book held c.accepted) c.award many

    -- the award is one of the divisions; every other division costs more; or costs the same and has more blanks; or as many, and gives less to
    -- the first bidder at whom the two differ; the total is its cost
    pub no_other_cheaper : IsAwardOf b (awarded answer.award)
    no_other_cheaper = subst (IsAwardOf b) (sym says) is_award

    -- what is bought is what the bidders sell
    pub bought_is : answer.award.bought.0 ≡ bought (awarded answer.award).quantities
    bought_is = no_other_cheaper.blanks

    -- with allowance 0 that is the demand
    pub bought_exactly : b.order.allowance.0 ≡ 0 → answer.award.bought.0 ≡ b.order.demand.0
    bought_exactly exact =
        let rs = (awarded answer.award).quantities in
        let sum = no_other_cheaper.division.sum in
        omega (arith, bought_is, meets_low b.order (bought rs) sum, meets_high b.order (bought rs) sum)

    -- the row of each bid is that of what it sells; the rows past the bids are zeros and `none`
    pub row_is : (i : ℕ) → i < b.count
        → row_at answer.award i ≡ row_of table (get_or b.bids i (bid_entries no_bid)) (get_or (awarded answer.award).quantities i 0) (total_without b i)
    row_is i h =
        ap (λ (x : Clearing). row_at x.award i) c.answer
        ∙ record_row table b (few_bids b c.accepted) (bids_counted book held c.accepted) c.award many (bid_entries no_bid) i h
        ∙ ap (λ (d : Priced). row_of table (get_or b.bids i (bid_entries no_bid)) (get_or d.quantities i 0) (total_without b i)) (sym says)

    pub past_rows : (i : ℕ) → b.count ≤ i → row_at answer.award i ≡ no_row
    past_rows i h =
        ap (λ (x : Clearing). row_at x.award i) c.answer
        ∙ record_past table b (few_bids b c.accepted) (bids_counted book held c.accepted) c.award many i h

    -- the total shown without a bidder is that of the award of the other bids
    pub without_is : (i : ℕ) → i < b.count → (row_at answer.award i).without ≡ total_of (award_of_book (book_without i b))
    unfolding total_without row_of
    without_is i h = ap (λ (row : Row). row.without) (row_is i h)

    -- and `none` exactly when they have no division
    pub none_without_iff : (i : ℕ) → i < b.count → ((row_at answer.award i).without ≡ Nothing) ↔ ((rs : List ℕ) → DivisionOf (book_without i b) rs → ⊥)
    none_without_iff i h =
        let (to, from) = total_none_iff (book_without i b) in
        (λ e. to (sym (without_is i h) ∙ e), λ f. without_is i h ∙ from f)

    pub amount_without : (i : ℕ) → i < b.count → (cents : ℤ) → (row_at answer.award i).without ≡ Amount (record { 0 = cents })
        → (award : Priced) × IsAwardOf (book_without i b) award × (award.cost ≡ cents)
    amount_without i h cents e = total_amount (book_without i b) cents (sym (without_is i h) ∙ e)

    -- at most one bidder stands strictly inside its segment
    pub one_inside : inside_count (supplies_of b.bids) (awarded answer.award).quantities ≤ 1
    unfolding award_of_book
    one_inside =
        let sound = sound_supplies b.bids (all_accepted b c.accepted) in
        subst (λ (d : Priced). inside_count (supplies_of b.bids) d.quantities ≤ 1) (sym says)
        (at_most_one_inside b.order (supplies_of b.bids) sound c.award c.is_award)

    -- where no other bid is left, it is `none`
    nobody_left : b.count ≡ 1 → (book_without 0 b).bids ≡ []
    unfolding book_without
    nobody_left one = let l : length b.bids ≤ 1 = omega (arith, bids_counted book held c.accepted) in drop_of_length-le b.bids l

    pub none_without_sole : b.count ≡ 1 → (row_at answer.award 0).without ≡ Nothing
    unfolding book_without
    none_without_sole one =
        let some_demand = (book_accepted b c.accepted).demand_low in
        (none_without_iff 0 (omega arith)).1 (λ rs d. nobody_sells (book_without 0 b) rs (nobody_left one) some_demand d)

    -- a bidder who sells nothing has the award's total as its total without
    pub without_same : (i : ℕ) → i < b.count → (row_at answer.award i).quantity.0 ≡ 0
        → (row_at answer.award i).without ≡ Amount answer.award.total
    unfolding row_of
    without_same i h e =
        let sold : get_or (awarded answer.award).quantities i 0 ≡ 0 = sym (ap (λ (row : Row). row.quantity.0) (row_is i h)) ∙ e in
        let none_sold : get_or c.award.quantities i 0 ≡ 0 = ap (λ (d : Priced). get_or d.quantities i 0) (sym says) ∙ sold in
        let bid : i < length b.bids = omega (arith, bids_counted book held c.accepted) in
        ap (λ (row : Row). row.without) (row_is i h)
        ∙ same_total b c.award c.is_award i bid none_sold
        ∙ ap (λ (d : Priced). Amount (record { 0 = d.cost })) (sym says)
