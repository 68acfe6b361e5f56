-- A part of the search that has nothing better is left out. Assumes nothing.
use Prim.Native.Nat.{ℕ, ◌+◌, ◌≤◌}
use native.Mathlib.Omega.{arith}
use mathlib.Core.Bool.{Bool, true}
use mathlib.Core.List.{List}
use mathlib.Core.Path.{◌≡◌, sym, subst}
use Rattle.std.specs.Prelude.{Option, Some}
use lib.ListN.{length, drop, length-drop}
use Rattle.lists.specs.All.{All}
use Rattle.lists.proofs.Removed.{map_drop, all_drop}
use Rattle.book.specs.declared.Segment.{Segment}
use Rattle.book.specs.declared.Order.{Order}
use Rattle.book.specs.declared.Book.{Book}
use Rattle.book.specs.Entries.{BidEntries, book_entries}
use Rattle.book.specs.Accepted.{AcceptedBid}
use Rattle.book.proofs.Bids.{length_entries}
use Rattle.supply.specs.Supply.{supply_of, supplies_of}
use Rattle.supply.specs.Sound.{SoundSegment}
use Rattle.choices.specs.Search.{search}
use Rattle.choicerecord.specs.declared.Choice.{Choice}
use Rattle.choicerecord.specs.Records.{chosen}
use Rattle.choicerecord.proofs.Choosing.{length_chosen, sound_chosen}
use Rattle.comparison.specs.declared.PricedDivision.{PricedDivision}
use Rattle.comparison.specs.Records.{found}
use Rattle.charges.specs.declared.Prices.{Prices}
use Rattle.charges.specs.declared.Charges.{Charges}
use Rattle.charges.specs.declared.Sums.{Sums}
use Rattle.charges.specs.Records.{Capped, ChargesOf, SumsOf, UpTo}
use Rattle.charges.proofs.Sizes.{sums_up_to}
use Rattle.completions.specs.Classes.{Covers, Surveyed}
use Rattle.hopeless.specs.Hopeless.{WinsTies, NothingBetter}
use Rattle.search.specs.Searchable.{Searchable, sums_of}

-- by what a choice carries and its charges it is judged as by sums added up afresh
pub sums_carried : (order : Order) (prices : Prices) (c : Choice) (charged : Charges) → ChargesOf order prices (chosen c) charged
    → SumsOf order prices (chosen c) (sums_of c charged)
sums_carried order prices c charged h = record { low = c.sound.starts_carried; high = c.sound.ends_carried; charges_of = h }

-- the sums of a choice are no larger than those of eight bidders
pub small_sums : (order : Order) (prices : Prices) (c : Choice) (sums : Sums) → Capped prices → SumsOf order prices (chosen c) sums → UpTo 8 sums
small_sums order prices c sums capped s = sums_up_to order prices 8 (chosen c) sums (sound_chosen c) capped (omega (arith, length_chosen c, c.sound.few)) s

module _ (book : Book) (prices : Prices) (table : List Sums) (searchable : Searchable (book_entries book)) (surveyed : Surveyed book prices table)
    (held : book.count ≤ length book.bids) where
  abbrev bids : List BidEntries
  bids = (book_entries book).bids

  pub cut : (at : ℕ) → at ≤ book.count → (c : List Segment) → All SoundSegment c → length c ≡ at
      → (sums : Sums) → SumsOf book.order prices c sums → (ties : Bool) (best : Option PricedDivision)
      → (ties ≡ true → (kept : PricedDivision) → best ≡ Some kept → WinsTies book.order c kept)
      → NothingBetter book.order book.count prices table at sums ties best
      → found book.count best ≡ search book.order (drop at (supplies_of bids)) c (found book.count best)
  cut at within c sound size sums s ties best wins nothing =
      let same : supplies_of (drop at bids) ≡ drop at (supplies_of bids) = map_drop supply_of at bids in
      let covers = subst (Covers book.order prices table at) (sym same) (surveyed.covers at within) in
      let all : at + length (drop at bids) ≡ book.count = omega (arith, length-drop at bids, length_entries book.bids book.count held) in
      let kept = nothing.as_it_is c sound size s wins (drop at bids) (all_drop AcceptedBid at bids searchable.bids) all covers in
      sym (subst (λ (left : List (List Segment)). search book.order left c (found book.count best) ≡ found book.count best) same kept)
