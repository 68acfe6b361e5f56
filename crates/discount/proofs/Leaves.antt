-- The discounts that leave an accepted book are those from 0 to the largest that can be taken off each segment of the bid. Assumes nothing.
use Prim.Native.Nat.{ℕ}
use mathlib.Core.Bool.{Bool, true, false, ◌&&◌, and-true, false≢true}
use mathlib.Core.Path.{◌≡◌, refl, sym, ap, ap₂, ◌∙◌}
use lib.Dec.{leb}
use lib.ListN.{get_or}
use Rattle.std.specs.Prelude.{Ok, Err}
use Rattle.lists.specs.Every.{every}
use Rattle.lists.specs.Those.{those}
use Rattle.lists.proofs.Tests.{both_left, both_right}
use Rattle.lists.proofs.Everywhere.{every_both, every_map}
use Rattle.refusal.specs.Checks.{unless, when_accepted}
use Rattle.refusal.specs.declared.Rule.{Rule}
use Rattle.refusal.specs.Verdict.{Verdict}
use Rattle.refusal.specs.Verdict.{Accepted}
use Rattle.book.specs.declared.Segment.{Segment}
use Rattle.book.specs.Entries.{BidEntries, BookEntries}
use Rattle.book.specs.Rules.{start_not_negative, book_verdict}
use Rattle.discount.specs.Discount.{segment_off, is_of, has_cents, book_off, leaves_accepted}
use Rattle.discount.specs.Named.{Named}
use Rattle.discount.specs.Asked.{Largest}
use Rattle.discount.proofs.Bidder.{those_named}
use Rattle.discount.proofs.Verdict.{kept_off, verdict_off}

-- a check accepts where its test holds
accepts : (t : Bool) (rule : Rule) (place : ℕ) → when_accepted (unless t rule place) true false ≡ t
accepts true rule place = refl
accepts false rule place = refl

module _ (b : BookEntries) (bidder i : ℕ) (d : BidEntries) (accepted : book_verdict b ≡ Accepted) (named : Named bidder b.bids i) where
  abbrev own : BidEntries
  own = get_or b.bids i d

  has_named : (cents : ℕ) → every (has_cents cents) (those (is_of bidder) b.bids) ≡ has_cents cents own
  unfolding every
  has_named cents = ap (every (has_cents cents)) (those_named bidder b.bids i d named) ∙ and-true (has_cents cents own)

  leaves_own : (cents : ℕ) → leaves_accepted b bidder cents ≡ has_cents cents own && kept_off cents own
  unfolding leaves_accepted
  leaves_own cents =
      ap₂ (λ (s t : Bool). s && t) (has_named cents)
      (ap (λ (v : Verdict). when_accepted v true false) (verdict_off b bidder i cents d accepted named) ∙ accepts (kept_off cents own) _ _)

  -- every unit price of the bid has them
  pub leaves_has : (cents : ℕ) → leaves_accepted b bidder cents ≡ true → has_cents cents own ≡ true
  leaves_has cents e = both_left (has_cents cents own) (kept_off cents own) (sym (leaves_own cents) ∙ e)

  pub leaves_up_to : (most : ℕ) → Largest own most → (cents : ℕ) → leaves_accepted b bidder cents ≡ leb cents most
  unfolding has_cents
  leaves_up_to most largest cents =
      leaves_own cents
      ∙ ap (λ (t : Bool). has_cents cents own && t) (every_map start_not_negative (segment_off cents) own.segments)
      ∙ sym (every_both (λ (s : Segment). leb cents s.unit.0) (λ s. start_not_negative (segment_off cents s)) own.segments)
      ∙ largest cents

-- an accepted verdict of the book with the discount
pub leaves_accepted_lem : (b : BookEntries) (bidder cents : ℕ) → leaves_accepted b bidder cents ≡ true → book_verdict (book_off b bidder cents) ≡ Accepted
unfolding leaves_accepted
leaves_accepted_lem b bidder cents e = go (book_verdict (book_off b bidder cents)) (both_right (every (has_cents cents) (those (is_of bidder) b.bids)) _ e)
  where
    go : (v : Verdict) → when_accepted v true false ≡ true → v ≡ Accepted
    go (Ok _) e = refl
    go (Err refusal) e = absurd (false≢true e)
