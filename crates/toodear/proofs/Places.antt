-- Where the bidder's bid is found, it is the one that the book names; where none is found, the bidder is not in the book. Assumes nothing.
use Prim.Native.Nat.{ℕ, suc, ◌<◌}
use native.Mathlib.Omega.{arith}
use mathlib.Core.Bool.{false}
use mathlib.Core.List.{List, [], ◌∷◌, map}
use mathlib.Core.Path.{◌≡◌, refl, ap, ◌∙◌}
use borrow.Author.Tests.{eq-eqb, ne_eqb}
use lib.ListN.{length, take, length-map, get_or-map}
use Rattle.std.specs.Prelude.{◌≢◌}
use Rattle.std.specs.List.{All, HoldsAt}
use Rattle.lists.specs.Any.{any}
use Rattle.refusal.specs.Verdict.{Accepted}
use Rattle.book.specs.declared.Bid.{Bid}
use Rattle.book.specs.declared.Book.{Book}
use Rattle.book.specs.Entries.{bid_entries, book_entries}
use Rattle.book.specs.Rules.{book_verdict}
use Rattle.book.proofs.Records.{no_bid}
use Rattle.book.proofs.Accepted.{book_accepted}
use Rattle.discount.specs.Discount.{is_of}
use Rattle.discount.specs.Named.{Named}
use Rattle.discount.proofs.Bidder.{named_at}

pub named_there : (book : Book) (bidder i : ℕ) → book_verdict (book_entries book) ≡ Accepted → i < length (take book.count book.bids)
    → HoldsAt (λ (b : Bid). b.bidder ≡ bidder) (take book.count book.bids) i → Named bidder (book_entries book).bids i
named_there book bidder i accepted h here =
    let listed = take book.count book.bids in
    let within : i < length (map bid_entries listed) = omega (arith, length-map listed bid_entries) in
    named_at bidder 2 0 (map bid_entries listed) (bid_entries no_bid) (book_accepted (book_entries book) accepted).bids i within
    (ap (is_of bidder) (get_or-map bid_entries listed i no_bid) ∙ eq-eqb _ _ (here no_bid))

pub nowhere : (bidder : ℕ) (bs : List Bid) → All (λ b. b.bidder ≢ bidder) bs → any (is_of bidder) (map bid_entries bs) ≡ false
unfolding any
nowhere bidder [] others = refl
nowhere bidder (b ∷ bs) others =
    let other = ne_eqb b.bidder bidder (others 0 b (omega arith)) in
    rw other (nowhere bidder bs (λ k d h. others (suc k) d (omega arith)))
