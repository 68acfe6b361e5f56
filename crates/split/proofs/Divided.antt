-- The splits that are answered yes are the divisions of the book: of these the award is the best. Assumes nothing.
use Prim.Native.Nat.{ℕ, ◌+◌}
use mathlib.Core.Bool.{Bool, true, false, false≢true}
use mathlib.Core.List.{List, [], ◌∷◌}
use mathlib.Core.Logic.{◌↔◌}
use mathlib.Core.Path.{◌≡◌, refl}
use Rattle.std.specs.Prelude.{Ok, Err}
use Rattle.refusal.specs.Checks.{when_accepted}
use Rattle.refusal.specs.Verdict.{Verdict}
use Rattle.refusal.specs.Verdict.{Accepted}
use Rattle.refusal.proofs.Firsts.{all_passed, test_holds, refused_not}
use Rattle.book.specs.Entries.{BidEntries, BookEntries}
use Rattle.book.specs.Rules.{book_verdict}
use Rattle.supply.specs.Supply.{supplies_of}
use Rattle.supply.specs.Allocation.{bought}
use Rattle.supply.specs.Meets.{meets}
use Rattle.divisions.specs.Division.{Allocation, Division}
use Rattle.split.specs.Split.{quantities_verdict, split_verdict, split_of}

-- quantities that rule 11 lets pass are an allocation, and an allocation passes
passed : (line : ℕ) (bs : List BidEntries) (rs : List ℕ) → quantities_verdict line bs rs ≡ Accepted → Allocation (supplies_of bs) rs
unfolding quantities_verdict
passed line [] [] e = tt
passed line [] (r ∷ rs) e = refused_not e
passed line (b ∷ bs) [] e = refused_not e
passed line (b ∷ bs) (r ∷ rs) e = let (here, (later, _)) = all_passed (_ ∷ _ ∷ []) e in (test_holds _ _ _ here, passed (line + 1) bs rs later)

passes : (line : ℕ) (bs : List BidEntries) (rs : List ℕ) → Allocation (supplies_of bs) rs → quantities_verdict line bs rs ≡ Accepted
unfolding quantities_verdict
passes line [] [] a = refl
passes line [] (r ∷ rs) a = elim a [ ]
passes line (b ∷ bs) [] a = elim a [ ]
passes line (b ∷ bs) (r ∷ rs) a = rw (a.0, passes (line + 1) bs rs a.1)

-- a yes is of a split that is not refused
yes_passed : (v : Verdict) (t : Bool) → when_accepted v t false ≡ true → (v ≡ Accepted) × (t ≡ true)
yes_passed (Ok _) t e = (refl, e)
yes_passed (Err refusal) t e = absurd (false≢true e)

pub yes_division : (b : BookEntries) (rs : List ℕ) → book_verdict b ≡ Accepted
    → ((split_of b rs).meets ≡ true) ↔ Division b.order (supplies_of b.bids) rs
unfolding split_of split_verdict
yes_division b rs accepted = (to, from)
  where
    to : (split_of b rs).meets ≡ true → Division b.order (supplies_of b.bids) rs
    to e =
        let (v, sum) = yes_passed (split_verdict b rs) (meets b.order (bought rs)) e in
        let (_, (quantities, _)) = all_passed (book_verdict b ∷ quantities_verdict 2 b.bids rs ∷ []) v in
        record { allocation = passed 2 b.bids rs quantities; sum = sum }

    from : Division b.order (supplies_of b.bids) rs → (split_of b rs).meets ≡ true
    from d = rw (accepted, passes 2 b.bids rs d.allocation) d.sum
