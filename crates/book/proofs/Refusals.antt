-- By which rules, and on which lines, a record can be refused: what holds of every check holds of the first fault. Assumes nothing.
use Prim.Native.Nat.{ℕ, ◌+◌, ◌≤◌}
use native.Mathlib.Omega.{arith}
use mathlib.Core.Bool.{true}
use mathlib.Core.List.{List, [], ◌∷◌}
use mathlib.Core.Path.{◌≡◌, subst}
use lib.Dec.{leb, ltb}
use lib.ListN.{length}
use Rattle.lists.specs.All.{All}
use Rattle.lists.specs.Every.{every}
use Rattle.lists.proofs.All.{all_tested}
use Rattle.refusal.specs.Checks.{unless}
use Rattle.refusal.specs.declared.Rule.{Rule}
use Rattle.refusal.specs.declared.Rule.TheVariants.{BidCount, SegmentCount, Range, BidderOrder, SegmentOrder, NegativePrice}
use Rattle.refusal.specs.Verdict.{Refused}
use Rattle.refusal.proofs.Refusals.{RefusedBy, by_first, by_unless, is_other, Other, never_other}
use Rattle.book.specs.Entries.{BidEntries, BookEntries}
use Rattle.book.specs.Rules.{within, bid_in_range, segments_rise, start_not_negative, bid_verdict, order_in_range, bids_verdict, book_verdict}

-- the rules for a bid's line, and for a record
abbrev line_rules : List Rule
line_rules = SegmentCount ∷ Range ∷ BidderOrder ∷ SegmentOrder ∷ NegativePrice ∷ []

abbrev pub record_rules : List Rule
record_rules = BidCount ∷ line_rules

-- P holds of each of them, and the line is at most `most`
module _ (P : Rule → Type 0) (each : All P record_rules) (most : ℕ) where
  abbrev Named : Rule → ℕ → Type 0
  Named rule line = P rule × (line ≤ most)

  by_line : (line before : ℕ) (b : BidEntries) → line ≤ most → RefusedBy Named (bid_verdict line before b)
  unfolding bid_verdict
  by_line line before b l =
      let count = within 1 6 b.count in
      let range = bid_in_range b in
      let order = ltb before b.bidder in
      let rises = segments_rise 0 b.segments in
      let prices = every start_not_negative b.segments in
      let p = each.1 in
      by_first Named
      (unless count SegmentCount line
      ∷ unless range Range line
      ∷ unless order BidderOrder line
      ∷ unless rises SegmentOrder line
      ∷ unless prices NegativePrice line
      ∷ []) (
        by_unless Named count SegmentCount line (p.0, l),
        (
          by_unless Named range Range line (p.1.0, l),
          (
            by_unless Named order BidderOrder line (p.1.1.0, l),
            (
              by_unless Named rises SegmentOrder line (p.1.1.1.0, l),
              (by_unless Named prices NegativePrice line (p.1.1.1.1.0, l), tt),
            ),
          ),
        ),
      )

  by_lines : (line before : ℕ) (bs : List BidEntries) → line + length bs ≤ most + 1 → RefusedBy Named (bids_verdict line before bs)
  unfolding bids_verdict
  by_lines line before [] l = tt
  by_lines line before (b ∷ bs) l =
      by_first Named (bid_verdict line before b ∷ bids_verdict (line + 1) b.bidder bs ∷ [])
      (by_line line before b (omega arith), (by_lines (line + 1) b.bidder bs (omega arith), tt))

  by_book : (b : BookEntries) → 10 ≤ most → 1 + length b.bids ≤ most → RefusedBy Named (book_verdict b)
  unfolding book_verdict
  by_book b l l' =
      let asked = order_in_range b.order in
      let some_bid = ltb 0 b.count in
      let few = leb b.count 8 in
      by_first Named (unless asked Range 1 ∷ unless some_bid BidCount 2 ∷ bids_verdict 2 0 b.bids ∷ unless few BidCount 10 ∷ []) (
        by_unless Named asked Range 1 (each.1.1.0, omega arith),
        (
          by_unless Named some_bid BidCount 2 (each.0, omega arith),
          (by_lines 2 0 b.bids (omega arith), (by_unless Named few BidCount 10 (each.0, omega arith), tt)),
        ),
      )

-- what holds of each rule for records holds of the rule that refuses one
pub record_rule : (P : Rule → Type 0) → All P record_rules → (b : BookEntries) (rule : Rule) (line : ℕ) → book_verdict b ≡ Refused rule line → P rule
record_rule P each b rule line e =
    let most : ℕ = 10 + length b.bids in
    (subst (RefusedBy (Named P each most)) e (by_book P each most b (omega arith) (omega arith))).0

-- so a rule that is none of them refuses no record
module _ (this : Rule) (others : every (is_other this) record_rules ≡ true) (b : BookEntries) where
  pub by_other : (rule : Rule) (line : ℕ) → book_verdict b ≡ Refused rule line → Other this rule
  by_other = record_rule (Other this) (all_tested (is_other this) record_rules others) b

  pub never_by : (line : ℕ) → book_verdict b ≡ Refused this line → ⊥
  never_by line e = never_other this (by_other this line e)

-- and of a record, which holds at most eight bids, the line is at most 10
pub record_line : (b : BookEntries) (rule : Rule) (line : ℕ) → length b.bids ≤ 8 → book_verdict b ≡ Refused rule line → line ≤ 10
record_line b rule line few e =
    let any : Rule → Type 0 = λ r. Unit {0} in
    let each : All any record_rules = (tt, (tt, (tt, (tt, (tt, (tt, tt)))))) in
    (subst (RefusedBy (Named any each 10)) e (by_book any each 10 b (omega arith) (omega arith))).1
