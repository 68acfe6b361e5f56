-- The numbers and places of document 01, section "What is turned down", and of document 02.
use Rattle.std.specs.Prelude.{ℕ, Ok, Err}
use Rattle.refusal.specs.declared.Rule.{Rule}
use Rattle.refusal.specs.declared.Rule.TheVariants.{TextLength, Shape, BidCount, SegmentCount, Range, BidderOrder, SegmentOrder, NegativePrice, NotCovered, OutputLength, SplitQuantity, SamplingTable, UnknownBidder}
use Rattle.refusal.specs.Verdict.{Verdict}

abbrev pub rule_number : Rule → ℕ
rule_number TextLength = 1  -- the text is longer than 4,096 bytes
rule_number Shape = 2  -- the text is not of the shape
rule_number BidCount = 3  -- no bids, or a ninth bid
rule_number SegmentCount = 4  -- a bid without segments, or with a seventh
rule_number Range = 5  -- a number outside its range
rule_number BidderOrder = 6  -- a bidder number not above the one before
rule_number SegmentOrder = 7  -- a start above its end, or not above the end before
rule_number NegativePrice = 8  -- a negative price at a start
rule_number NotCovered = 9  -- no allocation adds up to at least the demand and at most demand plus allowance (document 02, change 5)
rule_number OutputLength = 10  -- the lent output is shorter than the text or sheet
rule_number SplitQuantity = 11  -- a proposed quantity missing, neither 0 nor on a segment, or one too many
rule_number SamplingTable = 12  -- a band of a sampling table that breaks a rule (document 02, change 3)
rule_number UnknownBidder = 13  -- a bidder who is not in the book (document 02, change 8)

-- the number and the place that a verdict shows; 0 and 0 where nothing is refused
abbrev pub number_of : Verdict → ℕ
number_of (Ok _) = 0
number_of (Err refusal) = rule_number refusal.rule

abbrev pub place_of : Verdict → ℕ
place_of (Ok _) = 0
place_of (Err refusal) = refusal.place
