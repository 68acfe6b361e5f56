-- The book less a bid: the bids before it stay, and those after it move a place forward. Assumes nothing.
use Prim.Native.Nat.{ℕ, suc, ◌+◌, ◌-◌, ◌≤◌, ◌<◌}
use native.Mathlib.Numerals.{add-one}
use native.Mathlib.Omega.{arith}
use mathlib.Core.List.{List, map, ◌++◌}
use mathlib.Core.Path.{◌≡◌, ap, ap₂, sym, ◌∙◌}
use lib.ListN.{length, take, drop, length-drop}
use borrow.Rule.Slice.PartMut.{put_mid}
use Rattle.std.proofs.lemmas.List.{take-take, drop-take, length-take-le}
use Rattle.std.proofs.lemmas.Slice.{take-put_mid}
use Rattle.lists.proofs.Removed.{removed, map_removed}
use Rattle.book.specs.declared.Bid.{Bid}
use Rattle.book.specs.declared.Book.{Book}
use Rattle.book.specs.Entries.{bid_entries, book_entries}
use Rattle.without.specs.Without.{book_without}

module _ {A : Type 0} (xs : List A) (at n : ℕ) (h : at < n) (k : n ≤ length xs) where
  abbrev later : ℕ
  later = n - (at + 1)

  moved : (lent : ℕ) (ys : List A) → ys ≡ take later (drop (at + 1) xs) → take (n - 1) (put_mid at lent xs ys) ≡ removed at (take n xs)
  moved lent ys e =
      let whole : n ≡ suc at + later = omega arith in
      let size : length ys ≡ later = ap length e ∙ length-take-le later (drop (at + 1) xs) (omega (arith, length-drop (at + 1) xs)) in
      take-put_mid at lent xs ys (n - 1) (omega (arith, size)) (omega arith)
      ∙ ap₂ (λ (front back : List A). front ++ back) (sym (take-take at n xs (omega arith)))
      (e ∙ ap (λ (i : ℕ). take later (drop i xs)) (add-one at) ∙ sym (drop-take (suc at) later xs) ∙ ap (λ (i : ℕ). drop (suc at) (take i xs)) (sym whole))

pub less : (book : Book) (at lent : ℕ) (later : List Bid) → at < book.count → book.count ≤ length book.bids
    → later ≡ take (book.count - (at + 1)) (drop (at + 1) book.bids)
    → book_entries (record { order = book.order; count = book.count - 1; bids = put_mid at lent book.bids later }) ≡ book_without at (book_entries book)
unfolding book_without
less book at lent later h k e =
    rw (ap (map bid_entries) (moved book.bids at book.count h k lent later e) ∙ map_removed bid_entries at (take book.count book.bids))
