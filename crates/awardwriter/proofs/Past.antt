-- The row that stands for what lies past the end of an array of rows. Assumes nothing.
use lib.IntN.{pos}
use Rattle.award.specs.declared.Total.TheVariants.{Amount}
use Rattle.award.specs.declared.Row.{Row}

-- all zeros, also in the amount, which noRow of the award lacks
abbrev pub past_row : Row
past_row = record {
  bidder = 0;
  segment = 0;
  quantity = record { 0 = 0 };
  price = record { 0 = pos 0 };
  sample = record { 0 = 0 };
  without = Amount (record { 0 = pos 0 });
}
