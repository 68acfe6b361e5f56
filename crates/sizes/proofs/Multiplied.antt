-- The choices of a book along the loop that multiplies them: each bid has at most six segments, so the product stays small. Assumes nothing.
use Prim.Native.Nat.{ℕ, ◌+◌, ◌*◌, ◌^◌, ◌≤◌, ◌<◌}
use native.Mathlib.Omega.{arith}
use mathlib.Core.List.{List, map}
use mathlib.Core.Path.{◌≡◌, sym, ap, subst, ◌∙◌}
use lib.ListN.{length, get_or, drop, length-map, get_or-map}
use Rattle.std.proofs.Common.{mul-one, mul_assoc, mul-le-mul, pow-suc}
use Rattle.std.proofs.Math.Nat.{pow-le-pow_right}
use Rattle.std.proofs.Math.Numerals.{add-one}
use Rattle.std.proofs.lemmas.List.{at_drop_all}
use Rattle.lists.specs.All.{All}
use Rattle.lists.proofs.All.{all_at}
use Rattle.lists.proofs.Slices.{drop_next}
use Rattle.book.specs.declared.Bid.{Bid}
use Rattle.book.specs.Entries.{bid_entries}
use Rattle.book.specs.Accepted.{AcceptedBid}
use Rattle.book.proofs.Records.{no_bid}
use Rattle.sizes.specs.Sizes.{choices_of}

module _ (bs : List Bid) (i choices : ℕ) where
  pub choices_next : i < length bs
      → choices * choices_of (map bid_entries (drop i bs)) ≡ choices * ((get_or bs i no_bid).count + 1) * choices_of (map bid_entries (drop (i + 1) bs))
  unfolding choices_of
  choices_next h =
      ap (λ (l : List Bid). choices * choices_of (map bid_entries l)) (drop_next bs i no_bid h)
      ∙ sym (mul_assoc choices ((get_or bs i no_bid).count + 1) (choices_of (map bid_entries (drop (i + 1) bs))))

  pub choices_done : length bs ≤ i → choices * choices_of (map bid_entries (drop i bs)) ≡ choices
  unfolding choices_of
  choices_done h = at_drop_all (λ (l : List Bid). choices * choices_of (map bid_entries l)) bs i h ∙ mul-one choices

  module _ (accepted : All AcceptedBid (map bid_entries bs)) (more : i < length bs) where
    pub few_segments : (get_or bs i no_bid).count ≤ 6
    few_segments =
        let within : i < length (map bid_entries bs) = omega (arith, length-map bs bid_entries) in
        (subst AcceptedBid (get_or-map bid_entries bs i no_bid) (all_at AcceptedBid (bid_entries no_bid) (map bid_entries bs) accepted i within)).count_high

    pub product_small : choices ≤ 7 ^ i → choices * ((get_or bs i no_bid).count + 1) ≤ 7 ^ (i + 1)
    product_small h =
        let few : (get_or bs i no_bid).count + 1 ≤ 7 = omega (arith, few_segments) in
        let next : 7 ^ (i + 1) ≡ 7 ^ i * 7 = ap (λ (n : ℕ). 7 ^ n) (add-one i) ∙ pow-suc 7 i in
        omega (arith, mul-le-mul h few)

    -- of eight bids at most
    pub turn_small : choices ≤ 7 ^ i → length bs ≤ 8 → choices * ((get_or bs i no_bid).count + 1) ≤ 7 ^ 8
    turn_small h k =
        let most : i + 1 ≤ 8 = omega arith in
        let powers : 7 ^ (i + 1) ≤ 7 ^ 8 = pow-le-pow_right (omega arith) most in
        omega (arith, product_small h)
