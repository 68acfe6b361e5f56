-- The records that stand for what lies past the end of an array. Assumes nothing.
use mathlib.Core.List.{[]}
use lib.IntN.{pos}
use Rattle.book.specs.declared.Segment.{Segment}
use Rattle.book.specs.declared.Bid.{Bid}

abbrev pub no_segment : Segment
no_segment = record { start = record { 0 = 0 }; end = record { 0 = 0 }; unit = record { 0 = 0 }; fixed = record { 0 = pos 0 } }

abbrev pub no_bid : Bid
no_bid = record { bidder = 0; carriage = record { 0 = 0 }; count = 0; segments = [] }
