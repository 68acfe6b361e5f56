-- What holds along the loop that prices a split: nothing is lost between what was added up and what is left. Assumes nothing.
use Prim.Native.Nat.{ℕ, ◌+◌, ◌*◌, ◌≤◌, ◌<◌}
use native.Mathlib.Nat.{add-zero, zero-add, add_assoc}
use native.Mathlib.Omega.{arith}
use mathlib.Core.Bool.{true, false}
use mathlib.Core.List.{List, [], ◌∷◌, map}
use mathlib.Core.Path.{◌≡◌, refl, sym, ap, subst, ◌∙◌}
use lib.IntN.{ℤ, pos, nat_abs, ◌+ℤ◌, +ℤ_idl, +ℤ_idr, +ℤ_assoc}
use lib.ListN.{length, get_or, take, drop, drop_of_length-le, length-map, get_or-map}
use lib.Seq.{length-take-le}
use mir.Syntax.{w64}
use mir.Val.{SFits}
use Rattle.lists.proofs.Slices.{drop_next}
use Rattle.money.proofs.Bounds.{nat_abs_plus, small_fits}
use Rattle.book.specs.declared.Bid.{Bid}
use Rattle.book.specs.declared.Book.{Book}
use Rattle.book.specs.Entries.{BidEntries, bid_entries, book_entries}
use Rattle.book.specs.Rules.{book_verdict}
use Rattle.book.specs.Accepted.{AcceptedBid}
use Rattle.book.proofs.Records.{no_bid}
use Rattle.book.proofs.Accepted.{few_bids, all_accepted}
use Rattle.lists.proofs.All.{all_at}
use Rattle.refusal.specs.declared.Rule.TheVariants.{SplitQuantity}
use Rattle.refusal.specs.Verdict.{Accepted, Refused}
use Rattle.supply.specs.Supply.{supply_of, supplies_of, offers, price_at}
use Rattle.supply.specs.Allocation.{bought, cost_of}
use Rattle.supply.specs.Sound.{most_blanks}
use Rattle.supply.proofs.Accepted.{most_cents, Small}
use Rattle.split.specs.Split.{quantities_verdict}
use Rattle.split.proofs.Steps.{split_done, split_long, split_short, split_off, split_next, cost_next, total_next}

-- `price` and `sum` are those of the first i quantities
pub record Left (bs : List Bid) (rs : List ℕ) (price : ℤ) (sum i : ℕ) : Type 0 where
  pub sum_size : sum ≤ most_blanks * i
  pub price_size : nat_abs price ≤ most_cents * i
  pub verdict : quantities_verdict 2 (map bid_entries bs) rs ≡ quantities_verdict (2 + i) (map bid_entries (drop i bs)) (drop i rs)
  pub cost : cost_of (supplies_of (map bid_entries bs)) rs ≡ price +ℤ cost_of (supplies_of (map bid_entries (drop i bs))) (drop i rs)
  pub blanks : bought rs ≡ sum + bought (drop i rs)

pub left_all : (bs : List Bid) (rs : List ℕ) → Left bs rs (pos 0) 0 0
left_all bs rs = record {
  sum_size = omega arith;
  price_size = omega arith;
  verdict = refl;
  cost = sym (+ℤ_idl _);
  blanks = sym (zero-add _);
}

module _ {bs : List Bid} {rs : List ℕ} {price : ℤ} {sum i : ℕ} (left : Left bs rs price sum i) where
  module _ (more : i < length bs) where
    abbrev bid : Bid
    bid = get_or bs i no_bid

    abbrev later : List BidEntries
    later = map bid_entries (drop (i + 1) bs)

    here : map bid_entries (drop i bs) ≡ bid_entries bid ∷ later
    here = ap (map bid_entries) (drop_next bs i no_bid more)

    -- no quantity for this bid
    pub missing : length rs ≤ i → quantities_verdict 2 (map bid_entries bs) rs ≡ Refused SplitQuantity (2 + i)
    missing h = left.verdict ∙ split_short (2 + i) _ (drop i rs) (bid_entries bid) later here (drop_of_length-le rs h)

    module _ (some : i < length rs) where
      abbrev r : ℕ
      r = get_or rs i 0

      this : drop i rs ≡ r ∷ drop (i + 1) rs
      this = drop_next rs i 0 some

      -- its quantity is not on offer
      pub off : offers (supply_of (bid_entries bid)) r ≡ false → quantities_verdict 2 (map bid_entries bs) rs ≡ Refused SplitQuantity (2 + i)
      off e = left.verdict ∙ split_off (2 + i) _ (drop i rs) (bid_entries bid) later here r (drop (i + 1) rs) this e

      -- its quantity and price are added
      module _ (small : Small (supply_of (bid_entries bid)) r) (p : ℤ) (is-price : price_at (supply_of (bid_entries bid)) r ≡ p) where
        sum_small : nat_abs (price +ℤ p) ≤ most_cents * (i + 1)
        sum_small = omega (arith, nat_abs_plus price p, left.price_size, small.price, ap nat_abs is-price)

        pub sum_fits : i < 8 → SFits w64 (price +ℤ p)
        sum_fits h = small_fits (price +ℤ p) (omega (arith, sum_small))

        next_cost : cost_of (supplies_of (map bid_entries bs)) rs ≡ (price +ℤ p) +ℤ cost_of (supplies_of later) (drop (i + 1) rs)
        next_cost =
            left.cost
            ∙ ap (λ (z : ℤ). price +ℤ z) (cost_next (2 + i) _ (drop i rs) (bid_entries bid) later here r (drop (i + 1) rs) this)
            ∙ ap (λ (z : ℤ). price +ℤ (z +ℤ cost_of (supplies_of later) (drop (i + 1) rs))) is-price
            ∙ sym (+ℤ_assoc price p (cost_of (supplies_of later) (drop (i + 1) rs)))

        pub left_next : offers (supply_of (bid_entries bid)) r ≡ true → (price' : ℤ) → price' ≡ price +ℤ p → (sum' : ℕ) → sum' ≡ sum + r
            → Left bs rs price' sum' (i + 1)
        left_next e price' f sum' g = record {
          sum_size = omega (arith, left.sum_size, small.quantity);
          price_size = rw f sum_small;
          verdict =
              left.verdict
              ∙ split_next (2 + i) _ (drop i rs) (bid_entries bid) later here r (drop (i + 1) rs) this e
              ∙ ap (λ (line : ℕ). quantities_verdict line later (drop (i + 1) rs)) (add_assoc 2 i 1);
          cost = rw f next_cost;
          blanks = omega (arith, left.blanks, total_next (2 + i) _ (drop i rs) (bid_entries bid) later here r (drop (i + 1) rs) this);
        }

  module _ (all : length bs ≤ i) where
    none : map bid_entries (drop i bs) ≡ []
    none = ap (map bid_entries) (drop_of_length-le bs all)

    -- more quantities than bids
    pub too_long : i < length rs → quantities_verdict 2 (map bid_entries bs) rs ≡ Refused SplitQuantity (2 + i)
    too_long h = left.verdict ∙ split_long (2 + i) _ (drop i rs) (get_or rs i 0) (drop (i + 1) rs) none (drop_next rs i 0 h)

    -- as many quantities as bids
    module _ (h : length rs ≤ i) where
      over : drop i rs ≡ []
      over = drop_of_length-le rs h

      pub complete : quantities_verdict 2 (map bid_entries bs) rs ≡ Accepted
      complete = left.verdict ∙ split_done (2 + i) _ (drop i rs) none over

      pub whole_cost : cost_of (supplies_of (map bid_entries bs)) rs ≡ price
      unfolding cost_of
      whole_cost = left.cost ∙ ap (λ (ds : List BidEntries). price +ℤ cost_of (supplies_of ds) (drop i rs)) none ∙ +ℤ_idr price

      pub whole_sum : bought rs ≡ sum
      unfolding bought
      whole_sum = left.blanks ∙ ap (λ (l : List ℕ). sum + bought l) over ∙ add-zero sum

-- The bids that an accepted record lists.
module _ (book : Book) (accepted : book_verdict (book_entries book) ≡ Accepted) (listed : List Bid) (are : listed ≡ take book.count book.bids) where
  pub few_listed : length book.bids ≡ 8 → (length listed ≡ book.count) × (book.count ≤ 8)
  few_listed held =
      let few = few_bids book accepted held in
      (ap length are ∙ length-take-le book.count book.bids (omega arith), few)

  pub accepted_listed : (i : ℕ) → i < length listed → AcceptedBid (bid_entries (get_or listed i no_bid))
  accepted_listed i h =
      let all = rw (← are) at (all_accepted (book_entries book) accepted) in
      let within : i < length (map bid_entries listed) = omega (arith, length-map listed bid_entries) in
      subst AcceptedBid (get_or-map bid_entries listed i no_bid) (all_at AcceptedBid (bid_entries no_bid) (map bid_entries listed) all i within)
