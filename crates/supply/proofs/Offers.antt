-- A supply function segment by segment, and what an offer tells. Assumes nothing.
use Prim.Native.Nat.{ℕ, zero, suc}
use native.Mathlib.Nat.{not-suc-le-zero}
use native.Mathlib.Omega.{arith}
use mathlib.Core.Bool.{Bool, true, false, cond}
use mathlib.Core.List.{List, [], ◌∷◌}
use mathlib.Core.Path.{◌≡◌, refl, ap}
use lib.ListN.{get_or}
use Rattle.std.specs.Prelude.{Option, Some, None}
use Rattle.money.specs.declared.Cents.{Cents}
use Rattle.book.specs.declared.Segment.{Segment}
use Rattle.book.specs.Rules.{price_on}
use Rattle.supply.specs.Supply.{segment0, offers, price_at, offer_of}
use Rattle.supply.specs.Places.{FirstOn}
use Rattle.supply.proofs.Places.{past_first}

-- the price on a segment, as an offer
abbrev pub priced : Segment → ℕ → Option Cents
priced s r = Some (record { 0 = price_on s r })

-- where a segment was found the quantity is offered, and its price is the one there
pub found_there : (ss : List Segment) (r j : ℕ) → FirstOn ss r j → (offers ss r ≡ true) × (price_at ss r ≡ price_on (get_or ss j segment0) r)
unfolding offers price_at
found_there [] r j f = absurd (not-suc-le-zero f.there)
found_there (s ∷ ss) r zero f = (rw f.here, rw f.here)
found_there (s ∷ ss) r (suc j) f =
    let off = f.before 0 (omega arith) in
    let later = found_there ss r j (past_first f) in
    (rw off later.0, rw off later.1)

pub offer_found : (ss : List Segment) (r j : ℕ) → FirstOn ss r j → offer_of ss r ≡ priced (get_or ss j segment0) r
unfolding offer_of
offer_found ss r j f = let there = found_there ss r j f in rw (there.0, there.1)

pub offer_nowhere : (ss : List Segment) (r : ℕ) → offers ss r ≡ false → offer_of ss r ≡ None
unfolding offer_of
offer_nowhere ss r e = rw e

-- what an offer tells
offer_cases : (t : Bool) (price : Cents) (o : Option Cents) → cond t (Some price) None ≡ o
    → ((p : Cents) → o ≡ Some p → (t ≡ true) × (price ≡ p)) × (o ≡ None → t ≡ false)
offer_cases true price o e = (λ p f. (refl, cc), λ f. cc)
offer_cases false price o e = (λ p f. cc, λ f. refl)

pub offered : (ss : List Segment) (r : ℕ) (p : Cents) → offer_of ss r ≡ Some p → (offers ss r ≡ true) × (price_at ss r ≡ p.0)
unfolding offer_of
offered ss r p e =
    let (t, f) = (offer_cases (offers ss r) (record { 0 = price_at ss r }) (offer_of ss r) refl).0 p e in
    (t, ap (λ (c : Cents). c.0) f)

pub not_offered : (ss : List Segment) (r : ℕ) → offer_of ss r ≡ None → offers ss r ≡ false
unfolding offer_of
not_offered ss r e = (offer_cases (offers ss r) (record { 0 = price_at ss r }) (offer_of ss r) refl).1 e
