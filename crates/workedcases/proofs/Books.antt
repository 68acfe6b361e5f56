-- The books of the cases, as their entries. Assumes nothing.
use Prim.Native.Nat.{ℕ}
use mathlib.Core.List.{List, [], ◌∷◌}
use lib.IntN.{ℤ, pos, neg_ℤ}
use lib.ListN.{length}
use Rattle.book.specs.declared.Segment.{Segment}
use Rattle.book.specs.Entries.{BidEntries, BookEntries}

abbrev pub seg : ℕ → ℕ → ℕ → ℤ → Segment
seg start end unit fixed = record { start = record { 0 = start }; end = record { 0 = end }; unit = record { 0 = unit }; fixed = record { 0 = fixed } }

-- without carriage, as stored books are
abbrev pub bid : ℕ → List Segment → BidEntries
bid bidder segments = record { bidder = bidder; carriage = 0; count = length segments; segments = segments }

abbrev pub asked : ℕ → ℕ → List BidEntries → BookEntries
asked blanks over bids =
    record { order = record { demand = record { 0 = blanks }; allowance = record { 0 = over } }; count = length bids; bids = bids }

-- without allowance
abbrev pub demand : ℕ → List BidEntries → BookEntries
demand blanks bids = asked blanks 0 bids

-- the bids of document 01's book
abbrev pub the_bids : ℤ → List BidEntries
the_bids fixed =
    bid 3 (seg 1 60 400 (pos 0) ∷ seg 61 100 350 fixed ∷ [])
    ∷ bid 8 (seg 20 80 380 (pos 1000) ∷ [])
    ∷ bid 12 (seg 120 120 370 (pos 0) ∷ [])
    ∷ []

abbrev the_book : ℕ → BookEntries
the_book blanks = demand blanks (the_bids (neg_ℤ (pos 500)))

-- in the order of the table
unfoldable pub books : List BookEntries
books =
    the_book 120
    ∷ the_book 19
    ∷ the_book 60
    ∷ the_book 61
    ∷ the_book 181
    ∷ the_book 300
    ∷ the_book 301
    ∷ demand 10 (bid 1 (seg 1 10 5 (pos 0) ∷ []) ∷ bid 2 (seg 1 10 5 (pos 0) ∷ []) ∷ [])
    ∷ demand 119 (bid 12 (seg 120 120 370 (pos 0) ∷ []) ∷ [])
    ∷ demand 120 (the_bids (neg_ℤ (pos 21350)))
    ∷ demand 120 (the_bids (neg_ℤ (pos 21351)))
    ∷ asked 100 10 (bid 1 (seg 1 100 50 (pos 0) ∷ []) ∷ bid 2 (seg 110 110 40 (pos 0) ∷ []) ∷ [])
    ∷ asked 100 9 (bid 1 (seg 1 100 50 (pos 0) ∷ []) ∷ bid 2 (seg 110 110 40 (pos 0) ∷ []) ∷ [])
    ∷ asked 5 3 (bid 1 (seg 1 9 0 (pos 7) ∷ []) ∷ [])
    ∷ asked 5 3 (bid 1 (seg 8 8 0 (pos 30) ∷ []) ∷ bid 2 (seg 6 6 0 (pos 30) ∷ []) ∷ [])
    ∷ []
