-- No two bids of an accepted book are of one bidder. Assumes nothing.
use Prim.Native.Nat.{ℕ, ◌+◌, ◌<◌}
use native.Mathlib.Omega.{arith}
use mathlib.Core.List.{List, [], ◌∷◌}
use mathlib.Core.Path.{◌≡◌}
use Rattle.lists.specs.All.{All}
use Rattle.lists.proofs.All.{all_from}
use Rattle.refusal.specs.Verdict.{Accepted}
use Rattle.book.specs.Entries.{BidEntries}
use Rattle.book.specs.Rules.{bids_verdict}
use Rattle.book.proofs.Accepted.{first_line, later_lines}

-- every bidder is above the one before the first
pub all_above : (line before : ℕ) (bs : List BidEntries) → bids_verdict line before bs ≡ Accepted → All (λ b. before < b.bidder) bs
all_above line before [] e = tt
all_above line before (b ∷ bs) e =
    let above = (first_line line before b bs e).above in (
      above,
      all_from (λ c. b.bidder < c.bidder) (λ c. before < c.bidder) (λ c h. omega arith) bs
          (all_above (line + 1) b.bidder bs (later_lines line before b bs e)),
    )
