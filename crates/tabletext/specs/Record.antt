-- The record of a text: its count, the bands for which the record has a place, and zeros past the count. A count above the places stays as
-- it is, so that the rules for a record refuse it.
use Rattle.std.specs.Prelude.{replicate}
use Rattle.lists.specs.Padded.{padded}
use Rattle.sampling.specs.declared.Band.{Band}
use Rattle.sampling.specs.declared.Table.{Table}
use Rattle.sampling.specs.Entries.{TableEntries}

-- all zeros
abbrev pub empty_band : Band
empty_band = record { highest = 0; sample = 0 }

abbrev pub empty_table : Table
empty_table = record { count = 0; bands = replicate 16 empty_band }

unfoldable pub table_record : TableEntries → Table
table_record t = record { count = t.count; bands = padded 16 empty_band t.bands }
