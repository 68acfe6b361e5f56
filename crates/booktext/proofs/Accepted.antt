-- An accepted record has a text, and the record of this text is the same book. Assumes nothing.
use Prim.Native.Nat.{◌≤◌}
use native.Mathlib.Omega.{arith}
use mathlib.Core.Bool.{true}
use mathlib.Core.Path.{◌≡◌, sym}
use lib.ListN.{length, take, length-map}
use lib.Seq.{length-take-le}
use Rattle.lists.proofs.All.{all_tested, all_from, all_both, all_take, all_map, map_all}
use Rattle.refusal.specs.Verdict.{Accepted}
use Rattle.book.specs.declared.Segment.{Segment}
use Rattle.book.specs.declared.Bid.{Bid}
use Rattle.book.specs.declared.Book.{Book}
use Rattle.book.specs.Entries.{bid_entries, book_entries, SameBook}
use Rattle.book.specs.Rules.{segment_in_range, book_verdict}
use Rattle.book.specs.Accepted.{AcceptedBid}
use Rattle.book.proofs.Accepted.{book_accepted, all_accepted}
use Rattle.book.proofs.InRange.{in_range}
use Rattle.forms.proofs.Digits.{few_digits}
use Rattle.booktext.specs.Arrays.{SixSegments, Arrays}
use Rattle.booktext.specs.WellFormed.{WellFormedSegment, WellFormedBid, WellFormedBook}
use Rattle.booktext.specs.Record.{book_record}
use Rattle.booktext.proofs.Records.{FewSegments, entries_back}

well_formed_segment : (s : Segment) → segment_in_range s ≡ true → WellFormedSegment s
well_formed_segment s e =
    let r = in_range s e in
    record
    { start = few_digits _ (omega arith); end = few_digits _ (omega arith); unit = few_digits _ (omega arith); fixed = few_digits _ (omega arith) }

well_formed_bid : (x : Bid) → AcceptedBid (bid_entries x) × SixSegments x → WellFormedBid (bid_entries x)
well_formed_bid x h =
    let few : x.count ≤ length x.segments = omega (arith, h.0.count_high, h.1) in
    let ss = take x.count x.segments in
    record {
      bidder = few_digits _ (omega (arith, h.0.bidder_high));
      carriage = few_digits _ (omega (arith, h.0.carriage_high));
      count = sym (length-take-le x.count x.segments few);
      some = h.0.count_low;
      segments = all_from _ WellFormedSegment well_formed_segment ss (all_tested segment_in_range ss h.0.ranges);
    }

module _ (b : Book) (arrays : Arrays b) (accepted : book_verdict (book_entries b) ≡ Accepted) where
  pub well_formed : WellFormedBook (book_entries b)
  well_formed =
      let a = book_accepted (book_entries b) accepted in
      let few : b.count ≤ length b.bids = omega (arith, arrays.bids) in
      let bs = take b.count b.bids in
      let lines = map_all bid_entries AcceptedBid bs (all_accepted (book_entries b) accepted) in
      let arrays = all_take SixSegments b.count b.bids arrays.segments in
      record {
        demand = few_digits b.order.demand.0 (omega arith);
        allowance = few_digits b.order.allowance.0 (omega (arith, a.allowance_high));
        count = rw length-map (sym (length-take-le b.count b.bids few));
        some = a.count_low;
        bids = all_map bid_entries WellFormedBid bs (all_from _ _ well_formed_bid bs (all_both _ SixSegments bs lines arrays));
      }

  pub same_record : SameBook (book_record (book_entries b)) b
  same_record =
      let e = book_entries b in
      let few = (book_accepted e accepted).count_high in
      entries_back e well_formed few (all_from AcceptedBid FewSegments (λ x a. a.count_high) e.bids (all_accepted e accepted))
