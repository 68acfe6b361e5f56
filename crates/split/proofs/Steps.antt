-- A split bid by bid, over what is left of the bids and of the quantities. Assumes nothing.
use Prim.Native.Nat.{ℕ, ◌+◌, ◌≤◌, ◌<◌}
use mathlib.Core.Bool.{Bool, true, false}
use mathlib.Core.List.{List, [], ◌∷◌}
use mathlib.Core.Path.{◌≡◌, refl, sym, ap, ◌∙◌}
use lib.IntN.{◌+ℤ◌}
use Rattle.std.specs.Prelude.{Result, Ok, Err, Option, Some, None}
use Rattle.std.specs.Option.{ok_or, option_map, unwrap_or}
use Rattle.std.specs.Slice.{IsItemAt}
use Rattle.std.proofs.Common.{Bor, length, get_or, arith}
use Rattle.std.proofs.lemmas.Option.{MatchOption-at_none, MatchOption-at_some}
use Rattle.refusal.specs.Checks.{unless}
use Rattle.money.specs.declared.Cents.{Cents}
use Rattle.refusal.specs.declared.Refusal.{Refusal}
use Rattle.supply.specs.Meets.{meets}
use Rattle.book.specs.Entries.{BidEntries, BookEntries}
use Rattle.book.specs.Rules.{book_verdict}
use Rattle.refusal.proofs.Firsts.{only}
use Rattle.refusal.specs.declared.Rule.{Rule}
use Rattle.refusal.specs.declared.Rule.TheVariants.{SplitQuantity}
use Rattle.refusal.specs.Verdict.{Accepted, Refused}
use Rattle.supply.specs.Supply.{supply_of, supplies_of, offers, price_at}
use Rattle.supply.specs.Allocation.{bought, cost_of}
use Rattle.split.specs.Split.{quantities_verdict, split_verdict, split_of, split_told}

module _ (line : ℕ) (bs : List BidEntries) (rs : List ℕ) where
  pub split_done : bs ≡ [] → rs ≡ [] → quantities_verdict line bs rs ≡ Accepted
  unfolding quantities_verdict
  split_done e f = rw (e, f)

  pub split_long : (r : ℕ) (rs' : List ℕ) → bs ≡ [] → rs ≡ r ∷ rs' → quantities_verdict line bs rs ≡ Refused SplitQuantity line
  unfolding quantities_verdict
  split_long r rs' e f = rw (e, f)

  module _ (b : BidEntries) (bs' : List BidEntries) (here : bs ≡ b ∷ bs') where
    pub split_short : rs ≡ [] → quantities_verdict line bs rs ≡ Refused SplitQuantity line
    unfolding quantities_verdict
    split_short f = rw (here, f)

    module _ (r : ℕ) (rs' : List ℕ) (this : rs ≡ r ∷ rs') where
      pub split_off : offers (supply_of b) r ≡ false → quantities_verdict line bs rs ≡ Refused SplitQuantity line
      unfolding quantities_verdict
      split_off e = rw (here, this, e)

      pub split_next : offers (supply_of b) r ≡ true → quantities_verdict line bs rs ≡ quantities_verdict (line + 1) bs' rs'
      unfolding quantities_verdict
      split_next e = rw (here, this, e) (only (quantities_verdict (line + 1) bs' rs'))

      pub cost_next : cost_of (supplies_of bs) rs ≡ price_at (supply_of b) r +ℤ cost_of (supplies_of bs') rs'
      unfolding cost_of
      cost_next = rw (here, this)

      pub total_next : bought rs ≡ r + bought rs'
      unfolding bought
      total_next = rw this

-- The answer, by its verdict.
module _ (b : BookEntries) (rs : List ℕ) where
  refused_lem : (refusal : Refusal) → split_verdict b rs ≡ Err refusal → split_told (Err refusal) ≡ split_of b rs
  unfolding split_of
  refused_lem refusal e = rw e

  book_passed : book_verdict b ≡ Accepted → split_verdict b rs ≡ quantities_verdict 2 b.bids rs
  unfolding split_verdict
  book_passed e = rw e (only (quantities_verdict 2 b.bids rs))

  -- a book that is refused
  pub book_refused : (priced : Result (Cents × Bool) Refusal) (refusal : Refusal) → priced ≡ Err refusal → book_verdict b ≡ Err refusal
      → split_told priced ≡ split_of b rs
  unfolding split_verdict
  book_refused priced refusal e f = rw e (refused_lem refusal (rw f))

  module _ (accepted : book_verdict b ≡ Accepted) where
    -- quantities that rule 11 refuses at a place
    pub stopped : (place : ℕ) → quantities_verdict 2 b.bids rs ≡ Refused SplitQuantity place
        → (priced : Result (Cents × Bool) Refusal) (refusal : Refusal) → priced ≡ Err refusal → refusal ≡ record { rule = SplitQuantity; place = place }
        → split_told priced ≡ split_of b rs
    stopped place verdict priced refusal e f = rw (e, f) (refused_lem _ (book_passed accepted ∙ verdict))

    -- and quantities that it lets pass
    pub priced_lem : quantities_verdict 2 b.bids rs ≡ Accepted → (price : Cents) → cost_of (supplies_of b.bids) rs ≡ price.0
        → (answer : Bool) → answer ≡ meets b.order (bought rs) → split_told (Ok (price, answer)) ≡ split_of b rs
    unfolding split_of
    priced_lem verdict price e answer f = rw (book_passed accepted ∙ verdict, e, f)

-- a value or else a refusal
pub refused_none : {T : Type 0} (o : Option T) (refusal other : Refusal) → ok_or o refusal ≡ Err other → (o ≡ None) × (other ≡ refusal)
refused_none None refusal other e = (refl, cc)
refused_none (Some x) refusal other e = let z : ◌≡◌ {A = ℕ} 0 1 = cc in absurd (omega arith)

-- a test or else a refusal
pub refused_test : (t : Bool) (rule : Rule) (place : ℕ) (refusal : Refusal) → unless t rule place ≡ Err refusal
    → (t ≡ false) × (refusal ≡ record { rule = rule; place = place })
refused_test false rule place refusal e = (refl, cc)
refused_test true rule place refusal e = let z : ◌≡◌ {A = ℕ} 0 1 = cc in absurd (omega arith)

pub passed_test : (t : Bool) (rule : Rule) (place : ℕ) → unless t rule place ≡ Accepted → t ≡ true
passed_test true rule place e = refl
passed_test false rule place e = let z : ◌≡◌ {A = ℕ} 0 1 = cc in absurd (omega arith)

-- the quantity at an index, if there is one
module _ (rs : List ℕ) (i : ℕ) (o : Option (Bor ℕ)) (lookup : IsItemAt rs i o) where
  pub none_there : o ≡ None → length rs ≤ i
  none_there e = MatchOption-at_none _ _ e lookup.3

  pub one_there : (q : Bor ℕ) → o ≡ Some q → (i < length rs) × (q.now ≡ get_or rs i 0)
  one_there q e =
      ((MatchOption-at_some _ _ q e lookup.3).0, ap (λ (p : Option (Bor ℕ)). unwrap_or (option_map (λ (x : Bor ℕ). x.now) p) 0) (sym e) ∙ lookup.4 (omega arith) 0)
