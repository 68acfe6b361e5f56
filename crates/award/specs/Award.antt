-- An award as a record: document 01, section "The sheet".
use Rattle.std.specs.Prelude.{ℕ, pos, replicate}
use Rattle.book.specs.Entries.{BidEntries}
use Rattle.sampling.specs.Entries.{TableEntries}
use Rattle.sampling.specs.Sampling.{sample_of}
use Rattle.supply.specs.Supply.{supply_of, price_at, segment_number}
use Rattle.award.specs.declared.Total.{Total}
use Rattle.award.specs.declared.Total.TheVariants.{Nothing}
use Rattle.award.specs.declared.Row.{Row}
use Rattle.award.specs.declared.Award.{Award}

-- all zeros and `none`
abbrev pub no_row : Row
no_row = record {
  bidder = 0;
  segment = 0;
  quantity = record { 0 = 0 };
  price = record { 0 = pos 0 };
  sample = record { 0 = 0 };
  without = Nothing;
}

abbrev pub no_award : Award
no_award = record {
  demand = record { 0 = 0 };
  bought = record { 0 = 0 };
  total = record { 0 = pos 0 };
  count = 0;
  rows = replicate 8 no_row;
}

-- bidder, segment, quantity, price, blanks to sample by the table, and the total without the bidder
unfoldable pub row_of : TableEntries → BidEntries → ℕ → Total → Row
row_of table b r without = record {
  bidder = b.bidder;
  segment = segment_number (supply_of b) r;
  quantity = record { 0 = r };
  price = record { 0 = price_at (supply_of b) r };
  sample = record { 0 = sample_of table r };
  without = without;
}
