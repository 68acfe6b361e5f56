-- The answer about a bidder of an accepted book, by what the largest discount that leaves it accepted sells. Assumes nothing.
use Prim.Native.Nat.{ℕ, ◌≤◌}
use native.Mathlib.Omega.{arith}
use mathlib.Core.Bool.{Bool, true, false, ◌&&◌, and-false, false≢true}
use mathlib.Core.Logic.{◌↔◌}
use mathlib.Core.Option.{Option as Maybe, some, none}
use Rattle.std.specs.Prelude.{Option, Some, None, Result, Ok, Err}
use mathlib.Core.Path.{◌≡◌, refl, sym, ap, ◌∙◌}
use borrow.Author.Tests.{leb-true}
use lib.Dec.{leb}
use Rattle.lists.specs.Any.{any}
use Rattle.lists.specs.Least.{Least}
use Rattle.lists.proofs.Tests.{both_left}
use Rattle.lists.proofs.Least.{none_found, least_found}
use Rattle.refusal.specs.Checks.{unless, when_accepted}
use Rattle.refusal.specs.declared.Refusal.{Refusal}
use Rattle.money.specs.declared.CentsPerBlank.{CentsPerBlank}
use Rattle.refusal.specs.declared.Rule.TheVariants.{NotCovered, UnknownBidder}
use Rattle.refusal.specs.Verdict.{Verdict}
use Rattle.refusal.specs.Verdict.{Accepted}
use Rattle.refusal.proofs.Firsts.{only}
use Rattle.book.specs.Entries.{BookEntries, bid_entries}
use Rattle.book.specs.Rules.{book_verdict}
use Rattle.book.proofs.Records.{no_bid}
use Rattle.divisions.specs.Award.{Priced, award_of_book}
use Rattle.discount.specs.Discount.{is_of, book_off, leaves_accepted}
use Rattle.discount.specs.Named.{Named}
use Rattle.toodear.specs.TooDear.{sells_with, wins_with, smallest_off, discount_of, covers, too_dear_verdict, too_dear_told, too_dear_of}
use Rattle.toodear.proofs.Sold.{named_in}
use Rattle.toodear.proofs.Rises.{off_nothing, same_cover}
use Rattle.toodear.proofs.Halved.{all_have, rises}

-- where one has none exactly if the other has none
covers_same : (o p : Maybe Priced) → (o ≡ none) ↔ (p ≡ none) → covers o ≡ covers p
covers_same none p (to, from) = ap covers (sym (to refl))
covers_same (some a) none (to, from) = ap covers (from refl)
covers_same (some a) (some c) (to, from) = refl

-- by verdict and number
answer : (b : BookEntries) (bidder : ℕ) (v : Verdict) (o : Maybe ℕ) → too_dear_verdict b bidder ≡ v → smallest_off b bidder ≡ o
    → record { verdict = v; discount = when_accepted v (discount_of o) None } ≡ too_dear_of b bidder
unfolding too_dear_of
answer b bidder v o e f = rw (e, f)

-- a refusal
refused : (b : BookEntries) (bidder : ℕ) (refusal : Refusal) → too_dear_verdict b bidder ≡ Err refusal → (res : Result (Option CentsPerBlank) Refusal) → res ≡ Err refusal
    → too_dear_told res ≡ too_dear_of b bidder
refused b bidder refusal e res f = rw f (answer b bidder (Err refusal) (smallest_off b bidder) e refl)

-- the book's own, and then that the bidder is not in it
pub own_refusal : (b : BookEntries) (bidder : ℕ) (refusal : Refusal) → book_verdict b ≡ Err refusal → (res : Result (Option CentsPerBlank) Refusal) → res ≡ Err refusal
    → too_dear_told res ≡ too_dear_of b bidder
unfolding too_dear_verdict
own_refusal b bidder refusal e = refused b bidder refusal (rw e)

pub not_in_book : (b : BookEntries) (bidder : ℕ) → book_verdict b ≡ Accepted → any (is_of bidder) b.bids ≡ false → (res : Result (Option CentsPerBlank) Refusal)
    → res ≡ Err (record { rule = UnknownBidder; place = 0 }) → too_dear_told res ≡ too_dear_of b bidder
unfolding too_dear_verdict
not_in_book b bidder accepted e = refused b bidder (record { rule = UnknownBidder; place = 0 }) (rw (accepted, e))

module _
    (b : BookEntries) (bidder i : ℕ) (accepted : book_verdict b ≡ Accepted) (named : Named bidder b.bids i)
    (most : ℕ) (leaves : (cents : ℕ) → leaves_accepted b bidder cents ≡ leb cents most)
  where
    -- the book is covered exactly if it is with that discount
    cover_off : covers (award_of_book b) ≡ covers (award_of_book (book_off b bidder most))
    cover_off =
        ap (λ (c : BookEntries). covers (award_of_book c)) (sym (off_nothing b bidder))
        ∙ covers_same (award_of_book (book_off b bidder 0)) (award_of_book (book_off b bidder most))
        (same_cover b bidder i (bid_entries no_bid) named 0 most (omega arith) (all_have b bidder i accepted named most leaves most (omega arith)))

    verdict_is : too_dear_verdict b bidder ≡ unless (covers (award_of_book (book_off b bidder most))) NotCovered 0
    unfolding too_dear_verdict
    verdict_is = rw (accepted, named_in bidder b.bids i named, cover_off) (only _)

    pub not_covered : award_of_book (book_off b bidder most) ≡ none → (res : Result (Option CentsPerBlank) Refusal) → res ≡ Err (record { rule = NotCovered; place = 0 })
        → too_dear_told res ≡ too_dear_of b bidder
    not_covered e = refused b bidder (record { rule = NotCovered; place = 0 }) (verdict_is ∙ rw e)

    -- where that one sells nothing, none does
    none_wins : sells_with b bidder most ≡ false → (cents : ℕ) → wins_with b bidder cents ≡ false
    unfolding wins_with
    none_wins e cents = go (leb cents most) refl
      where
        go : (t : Bool) → leb cents most ≡ t → leaves_accepted b bidder cents && sells_with b bidder cents ≡ false
        go false f = rw (leaves cents ∙ f)
        go true f = rw (nothing (sells_with b bidder cents) refl) (and-false (leaves_accepted b bidder cents))
          where
            nothing : (s : Bool) → sells_with b bidder cents ≡ s → s ≡ false
            nothing false g = refl
            nothing true g = absurd (false≢true (sym e ∙ rises b bidder i accepted named most leaves cents most (leb-true cents most f) (omega arith) g))

    module _ (award : Priced) (is_award : award_of_book (book_off b bidder most) ≡ some award) where
      pub no_discount : sells_with b bidder most ≡ false → too_dear_told (Ok None) ≡ too_dear_of b bidder
      unfolding smallest_off
      no_discount e = answer b bidder Accepted none (verdict_is ∙ rw is_award) (none_found (wins_with b bidder) 1000001 (λ k h. none_wins e k))

      -- one that wins leaves an accepted book, so it is at most the largest
      up_to_most : (cents : ℕ) → wins_with b bidder cents ≡ true → cents ≤ most
      unfolding wins_with
      up_to_most cents w = leb-true cents most (sym (leaves cents) ∙ both_left (leaves_accepted b bidder cents) (sells_with b bidder cents) w)

      pub discount_is : most ≤ 1000000 → (cents : ℕ) → Least (wins_with b bidder) cents
          → too_dear_told (Ok (Some (record { 0 = cents }))) ≡ too_dear_of b bidder
      unfolding smallest_off
      discount_is small cents l =
          let h = up_to_most cents l.holds in
          answer b bidder Accepted (some cents) (verdict_is ∙ rw is_award) (least_found (wins_with b bidder) 1000001 cents (omega arith) l)
