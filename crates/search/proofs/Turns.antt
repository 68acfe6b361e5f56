-- A turn of the search: a segment is tried for the next bidder, and the best so far is that of the segments tried. Assumes nothing.
use Prim.Native.Nat.{ℕ, suc, ◌+◌, ◌≤◌, ◌<◌}
use native.Mathlib.Omega.{arith}
use mathlib.Core.Bool.{true, false, false≢true}
use mathlib.Core.List.{List, ◌∷◌}
use mathlib.Core.Option.{Option as Maybe}
use Rattle.std.specs.Prelude.{Option, Some}
use mathlib.Core.Path.{◌≡◌, sym, ap, subst, ◌∙◌}
use lib.ListN.{length, get_or, drop}
use Rattle.lists.specs.All.{All}
use Rattle.book.specs.declared.Segment.{Segment}
use Rattle.book.specs.declared.Bid.{Bid}
use Rattle.book.specs.declared.Book.{Book}
use Rattle.book.specs.Entries.{bid_entries, book_entries}
use Rattle.book.specs.Accepted.{AcceptedBid}
use Rattle.book.proofs.Records.{no_bid}
use Rattle.supply.specs.Supply.{segment0, supply_of, supplies_of}
use Rattle.supply.specs.Sound.{SoundSegment}
use Rattle.supply.proofs.Supply.{few_segments_lem}
use Rattle.supply.proofs.Accepted.{sound_segment_at}
use Rattle.divisions.specs.Award.{Priced}
use Rattle.choices.specs.Search.{each, leaf, search}
use Rattle.choicerecord.specs.declared.Choice.{Choice}
use Rattle.choicerecord.specs.Records.{chosen}
use Rattle.choicerecord.proofs.Choosing.{length_chosen, sound_chosen}
use Rattle.comparison.specs.declared.PricedDivision.{PricedDivision}
use Rattle.comparison.specs.Records.{found}
use Rattle.charges.specs.declared.Prices.{Prices}
use Rattle.charges.specs.declared.Charges.{Charges}
use Rattle.charges.specs.declared.Sums.{Sums}
use Rattle.charges.specs.Records.{sums_on, sums_with, Addable, SumsOf, UpTo}
use Rattle.charges.proofs.Sizes.{one_up_to, up_to_small, sums_next, sums_up_to}
use Rattle.hopeless.specs.Hopeless.{WinsTies, NothingBetter, Testable}
use Rattle.search.specs.Searchable.{ChoiceOf, sums_of, Bounding, Searching}
use Rattle.search.proofs.Steps.{for_all, each_none, each_next, each_all, tried, bidders_done, bidders_next, not_full, accepted_next}
use Rattle.search.proofs.Cuts.{sums_carried, small_sums, cut}

-- the bidder after those of a choice, and its segments
abbrev pub next_bid : Book → Choice → Bid
next_bid book c = get_or book.bids c.count no_bid

abbrev pub next_segments : Book → Choice → List Segment
next_segments book c = supply_of (bid_entries (next_bid book c))

-- one of them tried, with the bidders after it
abbrev pub try : Book → Choice → Segment → Maybe Priced → Maybe Priced
try book c = tried book.order (drop (c.count + 1) (supplies_of (book_entries book).bids)) (chosen c)

-- the search from a choice on
abbrev pub search_on : Book → Choice → Maybe Priced → Maybe Priced
search_on book c = search book.order (drop c.count (supplies_of (book_entries book).bids)) (chosen c)

-- what holds before each turn: the best so far is that of the segments from number j on
pub record Tried (book : Book) (c : Choice) (best : Option PricedDivision) (j : ℕ) (so_far : Option PricedDivision) : Type 0 where
  pub within : j ≤ (next_bid book c).count + 1
  pub best_is : found book.count so_far ≡ each (try book c) (drop j (next_segments book c)) (found book.count best)

module _ {book : Book} {prices : Prices} {table : List Sums} {c : Choice} {charged : Charges} (bounding : Bounding book prices table)
    (asked : Searching book prices c charged) where
  pub held : book.count ≤ length book.bids
  held = omega (arith, bounding.searchable.few, bounding.held)

  pub choice_of : ChoiceOf book c
  choice_of = record { searchable = bounding.searchable; within = omega (arith, asked.further) }

  few : c.count < 8
  few = not_full choice_of asked.further

  pub accepted : AcceptedBid (bid_entries (next_bid book c))
  accepted = accepted_next choice_of asked.further held

  pub none_tried : (best : Option PricedDivision) → Tried book c best ((next_bid book c).count + 1) best
  none_tried best =
      let b = next_bid book c in
      record { within = omega arith; best_is = each_none (try book c) (next_segments book c) (found book.count best) (b.count + 1) (few_segments_lem b) }

  pub all_tried : (best : Option PricedDivision) (j : ℕ) (so_far : Option PricedDivision) → j ≡ 0 → Tried book c best j so_far
      → found book.count so_far ≡ search_on book c (found book.count best)
  all_tried best j so_far e t =
      each_all (try book c) (next_segments book c) (found book.count best) j e (found book.count so_far) t.best_is
      ∙ sym (bidders_next book.bids book.count held book.order c.count (chosen c) (found book.count best) asked.further)

  pub testable : {sums : Sums} → UpTo 8 sums → Testable book.count (c.count + 1) sums
  testable small = record { within = omega (arith, asked.further); small = small }

  -- The sums that the choice carries.
  module _ {sums : Sums} (carried : sums ≡ sums_of c charged) where
    pub sums_now : SumsOf book.order prices (chosen c) sums
    sums_now = subst (SumsOf book.order prices (chosen c)) (sym carried) (sums_carried book.order prices c charged asked.charges_of)

    pub small_before : UpTo 8 sums
    small_before = small_sums book.order prices c sums bounding.capped sums_now

    -- there is nothing better from the choice on
    pub nothing_left : (best : Option PricedDivision) → ((kept : PricedDivision) → best ≡ Some kept → WinsTies book.order (chosen c) kept)
        → NothingBetter book.order book.count prices table c.count sums true best → found book.count best ≡ search_on book c (found book.count best)
    nothing_left best wins nothing =
        cut book prices table bounding.searchable bounding.surveyed held c.count choice_of.within (chosen c) (sound_chosen c) (length_chosen c) sums sums_now
        true best (λ _. wins) nothing

    -- The segment with number j, and the sums with it.
    module _ (j : ℕ) {s : Segment} (number : j < length (next_segments book c)) (is : s ≡ get_or (next_segments book c) j segment0) where
      pub sound : SoundSegment s
      sound = rw is (sound_segment_at (bid_entries (next_bid book c)) accepted j number)

      sound_next : All SoundSegment (s ∷ chosen c)
      sound_next = (sound, sound_chosen c)

      length_next : length (s ∷ chosen c) ≡ c.count + 1
      length_next = omega (arith, length_chosen c)

      pub addable : {one : Sums} → one ≡ sums_on book.order prices s → Addable sums one
      addable added = record {
        left = up_to_small 8 sums (omega arith) small_before;
        right = up_to_small 1 _ (omega arith) (subst (UpTo 1) (sym added) (one_up_to book.order prices s sound bounding.capped));
      }

      pub turn_done : {best so_far : Option PricedDivision} (k : ℕ) (r : Option PricedDivision) → k ≡ suc j → Tried book c best k so_far
          → found book.count r ≡ try book c s (found book.count so_far) → Tried book c best j r
      turn_done {best} {so_far} k r e t next =
          let o = found book.count so_far in
          record {
            within = omega (arith, t.within);
            best_is = each_next (try book c) (next_segments book c) (found book.count best) k j e number o (found book.count r) t.best_is
                (next ∙ ap (λ (x : Segment). try book c x o) is);
          }

      module _ {one more : Sums} (added : one ≡ sums_on book.order prices s) (together : more ≡ sums_with sums one) where
        pub sums_more : SumsOf book.order prices (s ∷ chosen c) more
        sums_more =
            let same = together ∙ ap (sums_with sums) added in
            subst (SumsOf book.order prices (s ∷ chosen c)) (sym same) (sums_next book.order prices s (chosen c) sums sums_now)

        pub small_with : UpTo 8 more
        small_with = sums_up_to book.order prices 8 _ more sound_next bounding.capped (omega (arith, length_next, few)) sums_more

        -- there is nothing better with this segment
        pub passed_over : (best : Option PricedDivision) → NothingBetter book.order book.count prices table (c.count + 1) more false best
            → found book.count best ≡ try book c s (found book.count best)
        passed_over best nothing =
            cut book prices table bounding.searchable bounding.surveyed held (c.count + 1) (omega (arith, asked.further)) (s ∷ chosen c) sound_next
            length_next more sums_more false best (λ h. absurd (false≢true h)) nothing

        -- The choice made with it: the last, or one to go on from.
        module _ (next : Choice) (count : next.count ≡ c.count + 1) (choice : chosen next ≡ s ∷ chosen c) where
          pub completed : (so_far r : Option PricedDivision) → c.count + 1 ≡ book.count
              → found next.count r ≡ leaf book.order (chosen next) (found next.count so_far) → found book.count r ≡ try book c s (found book.count so_far)
          completed so_far r last e =
              for_all next.count book.count r so_far (leaf book.order (chosen next)) (count ∙ last) e
              ∙ ap (λ (x : List Segment). leaf book.order x (found book.count so_far)) choice
              ∙ sym (bidders_done book.bids book.count held book.order (c.count + 1) (s ∷ chosen c) (found book.count so_far) (omega (arith, last)))

          pub went_on : (so_far r : Option PricedDivision) → found book.count r ≡ search_on book next (found book.count so_far)
              → found book.count r ≡ try book c s (found book.count so_far)
          went_on so_far r e = rw (choice, count) at e
