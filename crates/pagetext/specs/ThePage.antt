-- What change 1 of document 02 says of the page of an award: no column is too narrow, each line is 64 bytes and byte 10, and the columns,
-- read as numbers, give the award again; 585 bytes hold it.
use Rattle.std.specs.Prelude.{◌+◌, ◌≤◌, ◌≡◌, length}
use Rattle.award.specs.declared.Award.{Award}
use Rattle.pagetext.specs.Page.{page_text}
use Rattle.pagetext.specs.ReadBack.{award_in}
use Rattle.pagetext.specs.Fits.{PageFits, PageLines}

pub record ThePage (award : Award) : Type 0 where
  pub fits : PageFits award
  -- a line for each bid, and one before them
  pub lines : PageLines (award.count + 1) (page_text award)
  pub short : length (page_text award) ≤ 585
  -- the whole record
  pub read : award_in (page_text award) ≡ award
