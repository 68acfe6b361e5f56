-- What the figures of an accepted record tell. Assumes nothing.
use Prim.Native.Nat.{ℕ, ◌+◌, ◌*◌}
use native.Mathlib.Nat.{mul_comm}
use native.Mathlib.Omega.{arith}
use mathlib.Core.List.{List, [], ◌∷◌}
use mathlib.Core.Path.{◌≡◌, refl, sym, ap, ◌∙◌}
use borrow.Author.Tests.{le-leb, lt-leb}
use lib.ListN.{length}
use Rattle.lists.specs.All.{All}
use Rattle.lists.proofs.All.{all_any}
use Rattle.lists.proofs.Joined.{joined_each}
use Rattle.refusal.specs.Verdict.{Accepted}
use Rattle.book.specs.declared.Segment.{Segment}
use Rattle.book.specs.declared.Book.{Book}
use Rattle.book.specs.Entries.{BidEntries, book_entries}
use Rattle.book.specs.Rules.{book_verdict}
use Rattle.booktext.specs.Arrays.{Arrays}
use Rattle.booktext.specs.WellFormed.{WellFormedBid}
use Rattle.booktext.proofs.Accepted.{well_formed}
use Rattle.booktext.proofs.Lengths.{text_short, text_long}
use Rattle.output.specs.Writing.{writing_verdict, written_of}
use Rattle.bookwriter.specs.Writing.{text_of}
use Rattle.tablerules.proofs.Passing.{sample_small}
use Rattle.supply.specs.Supply.{supply_of, supplies_of}
use Rattle.supply.proofs.Supply.{supply_count}
use Rattle.choices.specs.Listed.{choices_from}
use Rattle.sizes.specs.Sizes.{choices_of, sheet_limit, figures_of, sizes_of}
use Rattle.sizes.proofs.Answers.{sizes_accepted}
use Rattle.endtoend.proofs.Fits.{sheet_bound}
use Rattle.sizetheorems.specs.TheSizes.{TheSizes}

-- each choice so far is completed with segment 0 or one of those that the bid lists
choices_from_lem : (bids : List BidEntries) → All WellFormedBid bids → (c : List Segment) → length (choices_from (supplies_of bids) c) ≡ choices_of bids
unfolding choices_of
choices_from_lem [] h c = refl
choices_from_lem (b ∷ bids) h c =
    let here : length (supply_of b) ≡ b.count + 1 = omega (arith, supply_count b, h.0.count) in
    let alike = all_any _ (λ (s : Segment). choices_from_lem bids h.1 (s ∷ c)) (supply_of b) in
    joined_each (λ (s : Segment). choices_from (supplies_of bids) (s ∷ c)) (choices_of bids) (supply_of b) alike
    ∙ mul_comm (choices_of bids) (length (supply_of b))
    ∙ ap (λ (n : ℕ). n * choices_of bids) here

module _ (b : Book) (arrays : Arrays b) (accepted : book_verdict (book_entries b) ≡ Accepted) where
  -- the figures, by which the record's are told
  figures_tell : TheSizes b (figures_of (book_entries b))
  unfolding writing_verdict written_of sheet_limit
  figures_tell = record {
    written = λ size h. rw (accepted, le-leb (length (text_of b)) size h);
    needed = λ size h. rw (accepted, lt-leb (length (text_of b)) size h);
    least = text_long (book_entries b) (well_formed b arrays accepted);
    most = text_short (book_entries b) (well_formed b arrays accepted) accepted;
    choices = sym (choices_from_lem (book_entries b).bids (well_formed b arrays accepted).bids []);
    sheet = λ table passes cleared. sheet_bound table (sample_small table passes) b arrays.bids cleared;
  }

  pub sizes_tell : TheSizes b (sizes_of (book_entries b))
  sizes_tell = rw (sizes_accepted (book_entries b) accepted) figures_tell
