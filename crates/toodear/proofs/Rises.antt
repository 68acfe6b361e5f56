-- With a larger discount the divisions are the same, and what a bidder sells does not fall. Assumes nothing.
use Prim.Native.Nat.{ℕ, zero, suc, ◌-◌, ◌≤◌, ◌<◌}
use native.Mathlib.Omega.{arith}
use mathlib.Core.Bool.{Bool, true, false, cond, false≢true}
use mathlib.Core.List.{List, [], ◌∷◌, map}
use mathlib.Core.Logic.{◌↔◌}
use mathlib.Core.Option.{Option, some, none}
use mathlib.Core.Path.{◌≡◌, refl, sym, ap₂, ◌∙◌, subst}
use borrow.Author.Tests.{leb-true, ltb-true, lt-ltb}
use lib.Dec.{leb}
use lib.ListN.{get_or}
use Rattle.lists.specs.All.{All}
use Rattle.lists.specs.Pairwise.{Pairwise, ChangedAt}
use Rattle.lists.proofs.All.{all_tested}
use Rattle.lists.proofs.Tests.{same_or_not}
use Rattle.lists.proofs.Pairwise.{changed_from, changed_map, changed_pairwise}
use Rattle.book.specs.declared.Segment.{Segment}
use Rattle.book.specs.Entries.{BidEntries, BookEntries}
use Rattle.supply.specs.Supply.{supply_of, supplies_of}
use Rattle.supply.proofs.Compared.{ComparedSupply}
use Rattle.divisions.specs.Award.{Priced, award_of_book}
use Rattle.divisions.proofs.Award.{award_is, no_award_iff}
use Rattle.pricechanges.specs.Discount.{CheaperSegment, CheaperBid}
use Rattle.pricechanges.proofs.Prices.{Above, cheaper_supply}
use Rattle.pricechanges.proofs.Divisions.{SameOffers, same_divisions}
use Rattle.pricechanges.proofs.Discount.{sells_no_fewer}
use Rattle.discount.specs.Discount.{segment_off, bid_off, is_of, bids_off, book_off, has_cents}
use Rattle.discount.specs.Named.{Named}
use Rattle.discount.proofs.Bidder.{none_off}
use Rattle.toodear.specs.TooDear.{sold_by, sells_in, sells_with}
use Rattle.toodear.proofs.Sold.{sold_at}

-- ---- two discounts, of which the second is no smaller, and every unit price has it

module _ (low high : ℕ) (h : low ≤ high) where
  segment_cheaper : (s : Segment) → high ≤ s.unit.0 → CheaperSegment (high - low) (segment_off low s) (segment_off high s)
  segment_cheaper s k = record { start = refl; end = refl; unit = omega arith; fixed = refl }

  segments_cheaper : (ss : List Segment) → All (λ s. leb high s.unit.0 ≡ true) ss
      → Pairwise (CheaperSegment (high - low)) (map (segment_off low) ss) (map (segment_off high) ss)
  segments_cheaper [] a = tt
  segments_cheaper (s ∷ ss) a = (segment_cheaper s (leb-true high s.unit.0 a.0), segments_cheaper ss a.1)

  bid_cheaper : (b : BidEntries) → has_cents high b ≡ true → CheaperBid (high - low) (bid_off low b) (bid_off high b)
  unfolding has_cents
  bid_cheaper b has = record {
    bidder = refl;
    carriage = refl;
    count = refl;
    segments = segments_cheaper b.segments (all_tested (λ (s : Segment). leb high s.unit.0) b.segments has);
  }

  bids_cheaper : (bidder : ℕ) (bs : List BidEntries) (i : ℕ) (d : BidEntries) → Named bidder bs i → has_cents high (get_or bs i d) ≡ true
      → ChangedAt i (CheaperBid (high - low)) (bids_off bidder low bs) (bids_off bidder high bs)
  bids_cheaper bidder (b ∷ bs) zero d n has = rw n.0 (bid_cheaper b has, none_off bidder low bs n.1 ∙ sym (none_off bidder high bs n.1))
  bids_cheaper bidder [] i d n has = elim n [ ]
  bids_cheaper bidder (b ∷ bs) (suc i) d n has = rw n.0 (refl, bids_cheaper bidder bs i d n.1 has)

-- a discount of 0 leaves the book as it is
segments_nothing : (ss : List Segment) → map (segment_off 0) ss ≡ ss
segments_nothing [] = refl
segments_nothing (s ∷ ss) =
    let unit : s.unit.0 - 0 ≡ s.unit.0 = omega arith in
    let same : segment_off 0 s ≡ s = λ j. record { start = s.start; end = s.end; unit = record { 0 = unit j }; fixed = s.fixed } in
    ap₂ (λ (t : Segment) (ts : List Segment). t ∷ ts) same (segments_nothing ss)

pub off_nothing : (b : BookEntries) (bidder : ℕ) → book_off b bidder 0 ≡ b
unfolding book_off
off_nothing b bidder = rw (all b.bids)
  where
    one : (t : Bool) (c : BidEntries) → cond t (bid_off 0 c) c ≡ c
    one true c = rw (segments_nothing c.segments)
    one false c = refl

    all : (bs : List BidEntries) → bids_off bidder 0 bs ≡ bs
    all [] = refl
    all (c ∷ bs) = ap₂ (λ (x : BidEntries) (xs : List BidEntries). x ∷ xs) (one (is_of bidder c) c) (all bs)

-- ---- what becomes of divisions and award

module _
    (b : BookEntries) (bidder i : ℕ) (d : BidEntries) (named : Named bidder b.bids i)
    (low high : ℕ) (h : low ≤ high) (has : has_cents high (get_or b.bids i d) ≡ true)
  where
    abbrev before : List (List Segment)
    before = supplies_of (bids_off bidder low b.bids)

    abbrev after : List (List Segment)
    after = supplies_of (bids_off bidder high b.bids)

    compared : ChangedAt i (ComparedSupply (Above (high - low))) before after
    compared =
        changed_map supply_of (ComparedSupply (Above (high - low))) i (bids_off bidder low b.bids) (bids_off bidder high b.bids)
        (changed_from (CheaperBid (high - low)) _ (cheaper_supply (high - low)) i (bids_off bidder low b.bids) (bids_off bidder high b.bids)
        (bids_cheaper low high h bidder b.bids i d named has))

    same : Pairwise SameOffers before after
    same =
        changed_pairwise SameOffers (λ ss r. refl) i before after
        (changed_from (ComparedSupply (Above (high - low))) SameOffers (λ ss ss' c. c.offered) i before after compared)

    pub same_cover : (award_of_book (book_off b bidder low) ≡ none) ↔ (award_of_book (book_off b bidder high) ≡ none)
    unfolding award_of_book book_off
    same_cover = (
      λ e. (no_award_iff b.order after).1 (λ rs v. (no_award_iff b.order before).0 e rs ((same_divisions b.order before after same rs).1 v)),
      λ e. (no_award_iff b.order before).1 (λ rs v. (no_award_iff b.order after).0 e rs ((same_divisions b.order before after same rs).0 v)),
    )

    -- where the first sells something, so does the second
    more_sold : low < high → (a c : Priced) → award_of_book (book_off b bidder low) ≡ some a → award_of_book (book_off b bidder high) ≡ some c
        → get_or a.quantities i 0 ≤ get_or c.quantities i 0
    unfolding award_of_book book_off
    more_sold l a c e f =
        sells_no_fewer b.order before after (high - low) i compared (omega arith) a c (award_is b.order before a e) (award_is b.order after c f)

    larger_sells : low < high → sells_with b bidder low ≡ true → sells_with b bidder high ≡ true
    unfolding sells_with
    larger_sells l s = go (award_of_book (book_off b bidder low)) refl (award_of_book (book_off b bidder high)) refl s
      where
        go : (o : Option Priced) → award_of_book (book_off b bidder low) ≡ o → (p : Option Priced) → award_of_book (book_off b bidder high) ≡ p
            → sells_in bidder b.bids o ≡ true → sells_in bidder b.bids p ≡ true
        go none e p f s = absurd (false≢true s)
        go (some a) e none f s = let z : some a ≡ none = sym e ∙ same_cover.1 f in let y : ◌≡◌ {A = ℕ} 0 1 = cc in absurd (omega arith)
        go (some a) e (some c) f s =
            let more = more_sold l a c e f in
            let first = sold_at bidder b.bids i a.quantities named in
            let second = sold_at bidder b.bids i c.quantities named in
            let one = ltb-true 0 (sold_by bidder b.bids a.quantities) s in
            lt-ltb 0 (sold_by bidder b.bids c.quantities) (omega arith)

    pub sells_rises : sells_with b bidder low ≡ true → sells_with b bidder high ≡ true
    sells_rises s = same_or_not low high (λ e. subst (λ (c : ℕ). sells_with b bidder c ≡ true) e s) (λ ne. larger_sells (omega (arith, ne)) s)
