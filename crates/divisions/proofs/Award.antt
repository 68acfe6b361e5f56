-- Demand 3 of the award as it is defined: it is the one division that no other is at least as good as. Assumes nothing.
use Prim.Native.Nat.{ℕ, suc}
use native.Mathlib.Omega.{arith}
use mathlib.Core.Bool.{true}
use mathlib.Core.List.Memᴰ
use mathlib.Core.List.{List, [], ◌∷◌, map, Memᴰ as In}
use mathlib.Core.Logic.{◌⊎◌, inl, inr, ◌↔◌, ⊎_elim}
use mathlib.Core.Option.{some, none}
use mathlib.Core.Path.{◌≡◌, refl, sym, ap, ◌∙◌, subst}
use lib.ListN.{length}
use Rattle.lists.proofs.Members.{in_map, map_in}
use Rattle.book.specs.declared.Segment.{Segment}
use Rattle.book.specs.declared.Order.{Order}
use Rattle.supply.specs.Allocation.{bought, cost_of}
use Rattle.divisions.specs.Division.{Allocation, Division}
use Rattle.divisions.specs.Listing.{divisions}
use Rattle.divisions.specs.Award.{Priced, priced, better, award_of}
use Rattle.divisions.specs.IsAward.{LosesTie, Worse, IsAward}
use Rattle.divisions.proofs.Signed.{less, less_test}
use Rattle.divisions.proofs.Order.{Wins, better_cases, better_cost, better_tie, gives_less, gives_more_lem}
use Rattle.divisions.proofs.IsBest.{IsBest, best_iff, best_unique, best_listed}
use Rattle.divisions.proofs.Listed.{listed_iff}

-- a division with its cost and its blanks
pub record PricedDivision (order : Order) (supplies : List (List Segment)) (d : Priced) : Type 0 where
  pub division : Division order supplies d.quantities
  pub cost : d.cost ≡ cost_of supplies d.quantities
  pub blanks : d.blanks ≡ bought d.quantities

module _ (order : Order) (supplies : List (List Segment)) where
  pub award_best : IsBest (PricedDivision order supplies) (award_of order supplies)
  unfolding award_of
  award_best =
      best_iff (PricedDivision order supplies) (λ d. In d (map (priced supplies) (divisions order supplies))) (award_of order supplies) to from
      (best_listed (map (priced supplies) (divisions order supplies)))
    where
      to : (d : Priced) → In d (map (priced supplies) (divisions order supplies)) → PricedDivision order supplies d
      to d h =
          let (rs, m, e) = map_in (priced supplies) (divisions order supplies) d h in
          subst (PricedDivision order supplies) (sym e) (record { division = (listed_iff order supplies rs).0 m; cost = refl; blanks = refl })

      from : (d : Priced) → PricedDivision order supplies d → In d (map (priced supplies) (divisions order supplies))
      from d p =
          let e : d ≡ priced supplies d.quantities = λ i. record { cost = p.cost i; blanks = p.blanks i; quantities = d.quantities } in
          Memᴰ.cast e (in_map (priced supplies) (divisions order supplies) d.quantities ((listed_iff order supplies d.quantities).1 p.division))

  -- no award exactly when there is no division
  pub no_award_iff : (award_of order supplies ≡ none) ↔ ((rs : List ℕ) → Division order supplies rs → ⊥)
  no_award_iff = (
    λ e rs d. subst (IsBest (PricedDivision order supplies)) e award_best (priced supplies rs) (record { division = d; cost = refl; blanks = refl }),
    λ f. best_unique (PricedDivision order supplies) (award_of order supplies) none award_best (λ d p. f d.quantities p.division),
  )

-- a division has a quantity for each bidder
pub as_many : (supplies : List (List Segment)) (rs : List ℕ) → Allocation supplies rs → length rs ≡ length supplies
as_many [] (r ∷ rs) a = elim a [ ]
as_many (ss ∷ supplies) [] a = elim a [ ]
as_many [] [] a = refl
as_many (ss ∷ supplies) (r ∷ rs) a = ap suc (as_many supplies rs a.1)

module _ (order : Order) (supplies : List (List Segment)) (award : Priced) where
  -- in the words of demand 3 and change 5
  loses : (rs : List ℕ) → length rs ≡ length award.quantities → award.blanks ≡ bought award.quantities → Wins award (priced supplies rs)
      → LosesTie rs award.quantities
  loses rs e b (inl h) = inl (omega arith)
  loses rs e b (inr h) = inr (omega (arith, h.0), gives_less award.quantities rs e h.1)

  wins : (rs : List ℕ) → length rs ≡ length award.quantities → award.blanks ≡ bought award.quantities → LosesTie rs award.quantities
      → Wins award (priced supplies rs)
  wins rs e b (inl h) = inl (omega arith)
  wins rs e b (inr h) = inr (omega (arith, h.0), gives_more_lem award.quantities rs e h.1)

  one_length : (rs : List ℕ) → Division order supplies rs → Division order supplies award.quantities → length rs ≡ length award.quantities
  one_length rs d a = as_many supplies rs d.allocation ∙ sym (as_many supplies award.quantities a.allocation)

  worse : (rs : List ℕ) → length rs ≡ length award.quantities → award.blanks ≡ bought award.quantities
      → better award (priced supplies rs) ≡ true → Worse supplies rs award
  worse rs e b h =
      ⊎_elim
      (λ k. inl (less award.cost (cost_of supplies rs) k))
      (λ k. inr (sym k.0, loses rs e b k.1))
      (better_cases award (priced supplies rs) h)

  better_than : (rs : List ℕ) → length rs ≡ length award.quantities → award.blanks ≡ bought award.quantities → Worse supplies rs award
      → better award (priced supplies rs) ≡ true
  better_than rs e b (inl h) = better_cost award (priced supplies rs) (less_test award.cost (cost_of supplies rs) h)
  better_than rs e b (inr h) = better_tie award (priced supplies rs) (sym h.0) (wins rs e b h.1)

  -- the award is a division, and every other division costs more; or costs the same and has more blanks; or as many, and gives less to the
  -- first bidder at whom the two differ
  pub award_is : award_of order supplies ≡ some award → IsAward order supplies award
  award_is e =
      let (p, rest) = subst (IsBest (PricedDivision order supplies)) e (award_best order supplies) in
      record {
        division = p.division;
        cost = p.cost;
        blanks = p.blanks;
        others = λ rs d.
            ⊎_elim (λ k. inl (ap (λ (x : Priced). x.quantities) k)) (λ k. inr (worse rs (one_length rs d p.division) p.blanks k))
            (rest (priced supplies rs) (record { division = d; cost = refl; blanks = refl }));
      }

  -- and nothing else is: these words fix it
  pub only_award : IsAward order supplies award → award_of order supplies ≡ some award
  only_award a =
      best_unique (PricedDivision order supplies) (award_of order supplies) (some award) (award_best order supplies)
      (record { division = a.division; cost = a.cost; blanks = a.blanks }, λ d p. go d p (a.others d.quantities p.division))
    where
      go : (d : Priced) → PricedDivision order supplies d → (d.quantities ≡ award.quantities) ⊎ Worse supplies d.quantities award
          → (d ≡ award) ⊎ (better award d ≡ true)
      go d p (inl e) =
          let cost : d.cost ≡ award.cost = p.cost ∙ ap (cost_of supplies) e ∙ sym a.cost in
          let blanks : d.blanks ≡ award.blanks = p.blanks ∙ ap bought e ∙ sym a.blanks in
          inl (λ i. record { cost = cost i; blanks = blanks i; quantities = e i })
      go d p (inr w) =
          let same : priced supplies d.quantities ≡ d = λ i. record { cost = sym p.cost i; blanks = sym p.blanks i; quantities = d.quantities } in
          inr (subst (λ (x : Priced). better award x ≡ true) same (better_than d.quantities (one_length d.quantities p.division a.division) a.blanks w))
