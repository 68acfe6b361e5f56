-- A row is the one of a bid where its parts are; without carriage, segment and price are those of the curve. Assumes nothing.
use Prim.Native.Nat.{ℕ}
use mathlib.Core.Path.{◌≡◌}
use Rattle.money.specs.declared.Blanks.{Blanks}
use Rattle.money.specs.declared.Cents.{Cents}
use Rattle.book.specs.Entries.{BidEntries}
use Rattle.sampling.specs.Entries.{TableEntries}
use Rattle.sampling.specs.Sampling.{sample_of}
use Rattle.supply.specs.Supply.{supply_of, price_at, segment_number}
use Rattle.supply.specs.Curve.{curve_of, NoCarriage}
use Rattle.supply.proofs.Carriage.{supply_curve}
use Rattle.award.specs.declared.Total.{Total}
use Rattle.award.specs.declared.Row.{Row}
use Rattle.award.specs.Award.{row_of}

module _ (table : TableEntries) (b : BidEntries) (quantity : Blanks) (without : Total) (segment : ℕ) (price : Cents) (sample : Blanks) where
  abbrev row : Row
  row = record { bidder = b.bidder; segment = segment; quantity = quantity; price = price; sample = sample; without = without }

  pub row_is : segment ≡ segment_number (supply_of b) quantity.0 → price.0 ≡ price_at (supply_of b) quantity.0
      → sample.0 ≡ sample_of table quantity.0 → row ≡ row_of table b quantity.0 without
  unfolding row_of
  row_is e f g = rw (e, ← f, ← g)

pub row_by_curve : (table : TableEntries) (b : BidEntries) (r : ℕ) (without : Total) → NoCarriage b
    → ((row_of table b r without).segment ≡ segment_number (curve_of b) r) × ((row_of table b r without).price.0 ≡ price_at (curve_of b) r)
unfolding row_of
row_by_curve table b r without none = let same = supply_curve b none in (rw same, rw same)
