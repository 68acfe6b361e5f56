-- The rows of an award, along the loop that makes them. Assumes nothing.
use Prim.Native.Nat.{ℕ, zero, suc, ◌+◌, ◌≤◌, ◌<◌}
use native.Mathlib.Nat.{le_of_suc-le-suc, not-suc-le-zero, add-zero, zero-add}
use native.Mathlib.Numerals.{add-one}
use native.Mathlib.Omega.{arith}
use mathlib.Core.List.{List, [], ◌∷◌, ◌++◌}
use mathlib.Core.Path.{◌≡◌, refl, sym, ap, ap₂, ◌∙◌}
use lib.ListN.{length, get_or, set, take, replicate, length-map}
use lib.Seq.{take-suc, take_all, length-take-le}
use Rattle.lists.specs.Padded.{padded}
use Rattle.lists.proofs.Padded.{padded_next}
use Rattle.money.specs.declared.Blanks.{Blanks}
use Rattle.book.specs.declared.Book.{Book}
use Rattle.book.specs.Entries.{BidEntries, BookEntries, bid_entries, book_entries}
use Rattle.book.proofs.Records.{no_bid}
use Rattle.book.proofs.Bids.{length_entries, entry_at}
use Rattle.sampling.specs.Entries.{TableEntries}
use Rattle.comparison.specs.Records.{blanks_in}
use Rattle.award.specs.declared.Row.{Row}
use Rattle.award.specs.Award.{no_row, row_of}
use Rattle.without.specs.Without.{total_without}
use Rattle.search.proofs.Found.{quantity_at}
use Rattle.clearing.specs.Clearing.{rows_from}

pub length_rows : (table : TableEntries) (b : BookEntries) (k : ℕ) (bids : List BidEntries) (rs : List ℕ) → length bids ≡ length rs
    → length (rows_from table b k bids rs) ≡ length bids
unfolding rows_from
length_rows table b k [] rs e = refl
length_rows table b k (bid ∷ bids) [] e = absurd (omega arith)
length_rows table b k (bid ∷ bids) (r ∷ rs) e = ap suc (length_rows table b (suc k) bids rs (omega arith))

pub row_at_lem : (table : TableEntries) (b : BookEntries) (k : ℕ) (bids : List BidEntries) (rs : List ℕ) (i : ℕ) (d : BidEntries) → i < length bids → i < length rs
    → get_or (rows_from table b k bids rs) i no_row ≡ row_of table (get_or bids i d) (get_or rs i 0) (total_without b (k + i))
unfolding rows_from
row_at_lem table b k [] rs i d h l = absurd (not-suc-le-zero h)
row_at_lem table b k (bid ∷ bids) [] i d h l = absurd (not-suc-le-zero l)
row_at_lem table b k (bid ∷ bids) (r ∷ rs) zero d h l = ap (λ (n : ℕ). row_of table bid r (total_without b n)) (sym (add-zero k))
row_at_lem table b k (bid ∷ bids) (r ∷ rs) (suc i) d h l =
    let same : suc k + i ≡ k + suc i = omega arith in
    row_at_lem table b (suc k) bids rs i d (le_of_suc-le-suc h) (le_of_suc-le-suc l)
    ∙ ap (λ (n : ℕ). row_of table (get_or bids i d) (get_or rs i 0) (total_without b n)) same

module _ (table : TableEntries) (book : Book) (quantities : List Blanks) where
  -- the rows of all bids
  abbrev pub all_rows : List Row
  all_rows = rows_from table (book_entries book) 0 (book_entries book).bids (take book.count (blanks_in quantities))

  -- the first i rows are made
  pub record Made (rows : List Row) (i : ℕ) : Type 0 where
    pub within : i ≤ book.count
    pub so_far : rows ≡ padded 8 no_row (take i all_rows)

  pub made_none : (blank : Row) → blank ≡ no_row → Made (replicate 8 blank) 0
  made_none blank e = record { within = omega arith; so_far = rw e }

  module _ (few : book.count ≤ 8) (held : length book.bids ≡ 8) (quantities_held : length quantities ≡ 8) where
    abbrev bids : List BidEntries
    bids = (book_entries book).bids

    abbrev rs : List ℕ
    rs = take book.count (blanks_in quantities)

    length_bids : length bids ≡ book.count
    length_bids = length_entries book.bids book.count (omega arith)

    length_quantities : length rs ≡ book.count
    length_quantities = length-take-le book.count (blanks_in quantities) (omega (arith, length-map quantities (λ (b : Blanks). b.0)))

    length_all : length all_rows ≡ book.count
    length_all = length_rows table (book_entries book) 0 bids rs (length_bids ∙ sym length_quantities) ∙ length_bids

    -- the row of the bid with index i, from what the arrays hold there
    abbrev bid : ℕ → BidEntries
    bid i = bid_entries (get_or book.bids i no_bid)

    abbrev quantity : ℕ → ℕ
    quantity i = (get_or quantities i (record { 0 = 0 })).0

    abbrev row : ℕ → Row
    row i = row_of table (bid i) (quantity i) (total_without (book_entries book) i)

    module _ (i : ℕ) (more : i < book.count) where
      the_bid : get_or bids i (bid_entries no_bid) ≡ bid i
      the_bid = entry_at book.bids book.count (omega arith) i more

      the_quantity : get_or rs i 0 ≡ quantity i
      the_quantity = quantity_at book.count quantities i more

      the_row : get_or all_rows i no_row ≡ row i
      the_row =
          row_at_lem table (book_entries book) 0 bids rs i (bid_entries no_bid) (omega (arith, length_bids)) (omega (arith, length_quantities))
          ∙ rw (zero-add i, the_bid, the_quantity)

      one_more : take (i + 1) all_rows ≡ take i all_rows ++ row i ∷ []
      one_more =
          rw add-one (take-suc all_rows i no_row (omega (arith, length_all)))
          ∙ ap (λ (r : Row). take i all_rows ++ r ∷ []) the_row

      pub made_next : (rows : List Row) (r : Row) → Made rows i → r ≡ row i → Made (set rows i r) (i + 1)
      made_next rows r made e =
          let size : length (take i all_rows) ≡ i = length-take-le i all_rows (omega (arith, length_all)) in
          record {
            within = omega arith;
            so_far =
                ap₂ (λ (l : List Row) (n : ℕ). set l n r) made.so_far (sym size)
                ∙ padded_next 8 no_row (take i all_rows) r (omega arith)
                ∙ rw e (ap (padded 8 no_row) (sym one_more));
          }

    pub made_all : (rows : List Row) (i : ℕ) → Made rows i → book.count ≤ i → rows ≡ padded 8 no_row all_rows
    made_all rows i made h = made.so_far ∙ ap (padded 8 no_row) (take_all i all_rows (omega (arith, length_all)))
