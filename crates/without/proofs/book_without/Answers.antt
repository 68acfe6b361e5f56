-- The bids copied a place forward are those that the definition has.
use Rattle.std.proofs.Common.{◌≡◌, length, arith}
use Rattle.lists.proofs.Slices.{length_held}
use Rattle.without.proofs.Less.{less}
use Rattle.without.proofs.book_without.Goals as goal

pub returns : goal.returns
returns c =
    let eight : length c.args.book.bids ≡ 8 = search length_held in
    less c.args.book c.args.at _ c.copy.new.to c.requires.within (omega (arith, c.requires.few)) c.copy.ensures
