-- The shape (document 02, change 3): which tables have a text. One or more bands, any number of them, and numbers of at most thirteen
-- digits, as in a bid book, whatever the rules.
use Rattle.std.specs.Prelude.{◌≤◌, ◌≡◌, length}
use Rattle.lists.specs.All.{All}
use Rattle.forms.specs.Number.{ThirteenDigits}
use Rattle.sampling.specs.declared.Band.{Band}
use Rattle.sampling.specs.Entries.{TableEntries}

pub record WellFormedBand (b : Band) : Type 0 where
  pub highest : ThirteenDigits b.highest
  pub sample : ThirteenDigits b.sample

-- what a table counts are its bands
pub record WellFormedTable (t : TableEntries) : Type 0 where
  pub count : t.count ≡ length t.bands
  pub some : 1 ≤ t.count
  pub bands : All WellFormedBand t.bands
