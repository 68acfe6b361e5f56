-- How long a sheet is, part by part. Assumes nothing.
use Prim.Native.Nat.{◌+◌}
use native.Mathlib.Omega.{arith}
use mathlib.Core.Path.{◌≡◌}
use lib.ListN.{length, take, length-append}
use Rattle.lists.specs.Joined.{joined}
use Rattle.forms.specs.Digits.{digits, signed_digits}
use Rattle.refusal.specs.Number.{number_of, place_of}
use Rattle.refusal.specs.Verdict.{Verdict}
use Rattle.award.specs.declared.Row.{Row}
use Rattle.award.specs.declared.Award.{Award}
use Rattle.sheettext.specs.Sheet.{total_text, row_text, first_text, sheet_text, refusal_text}

pub row_size : (row : Row)
    → length (row_text row)
    ≡ 22
    + length (digits row.bidder)
    + length (digits row.segment)
    + length (digits row.quantity.0)
    + length (signed_digits row.price.0)
    + length (digits row.sample.0)
    + length (total_text row.without)
unfolding row_text
row_size row = simp length-append (omega arith)

pub sheet_size : (award : Award)
    → length (sheet_text award)
    ≡ 11
    + length (digits award.demand.0)
    + length (digits award.bought.0)
    + length (signed_digits award.total.0)
    + length (joined row_text (take award.count award.rows))
unfolding first_text sheet_text
sheet_size award = simp length-append (omega arith)

pub refusal_size : (verdict : Verdict)
    → length (refusal_text verdict) ≡ 12 + length (digits (number_of verdict)) + length (digits (place_of verdict))
unfolding refusal_text
refusal_size verdict = simp length-append (omega arith)
