-- What a record holds of the entries of a text: the first n, then blanks; and the entries that it gives back. Assumes nothing.
use Prim.Native.Nat.{◌≤◌}
use mathlib.Core.List.{◌++◌, map}
use mathlib.Core.Path.{◌≡◌, refl, ap, ◌∙◌, subst}
use lib.ListN.{replicate, length-map}
use Rattle.lists.specs.All.{All}
use Rattle.lists.proofs.All.{all_from, all_both, all_any, all_append, all_same, all_take, all_map, map_all, map_back}
use Rattle.lists.proofs.Padded.{length_padded, take_count}
use Rattle.refusal.specs.Verdict.{Accepted}
use Rattle.book.specs.Entries.{BidEntries, BookEntries, bid_entries, book_entries}
use Rattle.book.specs.Rules.{book_verdict}
use Rattle.book.specs.Accepted.{AcceptedBid}
use Rattle.book.proofs.Accepted.{book_accepted, all_accepted}
use Rattle.booktext.specs.Arrays.{SixSegments, Arrays}
use Rattle.booktext.specs.WellFormed.{WellFormedBid, WellFormedBook}
use Rattle.booktext.specs.Record.{empty_segment, empty_bid, bid_record, book_record}

-- a bid for which a record has room
abbrev pub FewSegments : BidEntries → Type 0
FewSegments b = b.count ≤ 6

bid_back : (b : BidEntries) → WellFormedBid b × FewSegments b → bid_entries (bid_record b) ≡ b
unfolding bid_record
bid_back b h =
    let same = take_count 6 b.count empty_segment b.segments h.0.count h.1 in
    rw same

module _ (b : BookEntries) (well_formed : WellFormedBook b) where
  -- the bids within the record's count
  bids_of_record : b.count ≤ 8 → (book_entries (book_record b)).bids ≡ map bid_entries (map bid_record b.bids)
  unfolding book_record
  bids_of_record few =
      let records = map bid_record b.bids in
      ap (map bid_entries) (take_count 8 b.count empty_bid records (rw length-map well_formed.count) few)

  -- a book for which a record has room
  pub entries_back : b.count ≤ 8 → All FewSegments b.bids → book_entries (book_record b) ≡ b
  unfolding book_record
  entries_back few segments =
      let each = all_from _ _ bid_back b.bids (all_both WellFormedBid FewSegments b.bids well_formed.bids segments) in
      let same = bids_of_record few ∙ map_back bid_record bid_entries b.bids each in
      rw same

  -- the counts stay as they are, so that an accepted record had room
  pub entries_of_record : book_verdict (book_entries (book_record b)) ≡ Accepted → book_entries (book_record b) ≡ b
  unfolding book_record bid_record
  entries_of_record accepted =
      let said = book_entries (book_record b) in
      let few = (book_accepted said accepted).count_high in
      let bids = subst (All AcceptedBid) (bids_of_record few) (all_accepted said accepted) in
      let each = map_all bid_record _ b.bids (map_all bid_entries AcceptedBid (map bid_record b.bids) bids) in
      entries_back few (all_from _ FewSegments (λ x a. a.count_high) b.bids each)

-- a record has its arrays in full
pub record_arrays : (b : BookEntries) → Arrays (book_record b)
unfolding bid_record book_record
record_arrays b =
    let bids = map bid_record b.bids in
    let six = all_map bid_record SixSegments b.bids (all_any _ (λ x. length_padded 6 empty_segment x.segments) b.bids) in
    record {
      bids = length_padded 8 empty_bid bids;
      segments =
          all_take SixSegments 8 (bids ++ replicate 8 empty_bid)
          (all_append SixSegments bids (replicate 8 empty_bid) six (all_same SixSegments 8 empty_bid refl));
    }
