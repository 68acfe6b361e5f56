-- A test for books that have a text: the numbers have at most thirteen digits, and the counts are those of the lists and above 0. Assumes
-- nothing.
use Prim.Native.Nat.{ℕ}
use mathlib.Core.Bool.{Bool, true}
use mathlib.Core.List.{List, [], ◌∷◌}
use mathlib.Core.Path.{◌≡◌}
use borrow.Author.Tests.{eqb-true, ltb-true}
use lib.Dec.{eqb, ltb}
use lib.IntN.{nat_abs}
use lib.ListN.{length}
use Rattle.lists.specs.Every.{every}
use Rattle.lists.proofs.All.{all_tested, all_from}
use Rattle.book.specs.declared.Segment.{Segment}
use Rattle.book.specs.Entries.{BidEntries, BookEntries}
use Rattle.forms.specs.Number.{ThirteenDigits}
use Rattle.forms.proofs.Digits.{few_digits}
use Rattle.booktext.specs.WellFormed.{WellFormedSegment, WellFormedBid, WellFormedBook}
use Rattle.workedcases.proofs.Hold.{hold, each_holds}

abbrev small : ℕ → Bool
small n = ltb n 10000000000000

abbrev numbers : Segment → List ℕ
numbers s = s.start.0 ∷ s.end.0 ∷ s.unit.0 ∷ nat_abs s.fixed.0 ∷ []

abbrev segment_small : Segment → Bool
segment_small s = every small (numbers s)

abbrev bid_tests : BidEntries → List Bool
bid_tests b = small b.bidder ∷ small b.carriage ∷ eqb b.count (length b.segments) ∷ ltb 0 b.count ∷ every segment_small b.segments ∷ []

abbrev bid_small : BidEntries → Bool
bid_small b = hold (bid_tests b)

abbrev book_tests : BookEntries → List Bool
book_tests b = small b.order.demand.0 ∷ small b.order.allowance.0 ∷ eqb b.count (length b.bids) ∷ ltb 0 b.count ∷ every bid_small b.bids ∷ []

unfoldable pub book_small : BookEntries → Bool
book_small b = hold (book_tests b)

few : (n : ℕ) → small n ≡ true → ThirteenDigits n
few n e = few_digits n (ltb-true n 10000000000000 e)

segment_formed : (s : Segment) → segment_small s ≡ true → WellFormedSegment s
segment_formed s e =
    let h = all_from _ ThirteenDigits few (numbers s) (all_tested small (numbers s) e) in
    record { start = h.0; end = h.1.0; unit = h.1.1.0; fixed = h.1.1.1.0 }

bid_formed : (b : BidEntries) → bid_small b ≡ true → WellFormedBid b
bid_formed b e =
    let h = each_holds (bid_tests b) e in
    record {
      bidder = few b.bidder h.0;
      carriage = few b.carriage h.1.0;
      count = eqb-true b.count (length b.segments) h.1.1.0;
      some = ltb-true 0 b.count h.1.1.1.0;
      segments = all_from _ WellFormedSegment segment_formed b.segments (all_tested segment_small b.segments h.1.1.1.1.0);
    }

pub book_formed : (b : BookEntries) → book_small b ≡ true → WellFormedBook b
unfolding book_small
book_formed b e =
    let h = each_holds (book_tests b) e in
    record {
      demand = few b.order.demand.0 h.0;
      allowance = few b.order.allowance.0 h.1.0;
      count = eqb-true b.count (length b.bids) h.1.1.0;
      some = ltb-true 0 b.count h.1.1.1.0;
      bids = all_from _ WellFormedBid bid_formed b.bids (all_tested bid_small b.bids h.1.1.1.1.0);
    }
