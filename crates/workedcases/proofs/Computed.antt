-- The test of the whole table, computed. Assumes nothing.
use mathlib.Core.Bool.{true}
use mathlib.Core.Path.{◌≡◌, refl}
use Rattle.lists.specs.Every.{every}
use Rattle.money.specs.Price.{price_of}
use Rattle.book.specs.Rules.{segment_in_range, bid_in_range, segments_rise, start_not_negative, bid_verdict, bids_verdict, order_in_range, book_verdict}
use Rattle.forms.specs.Digits.{digits_within, digits, signed_digits}
use Rattle.booktext.specs.BookText.{segment_text, bid_head, bid_text, book_head, book_text}
use Rattle.sampling.specs.Sampling.{printed_bands, sample_above, sample_of}
use Rattle.supply.specs.Supply.{supply_of, on, price_at, number_from, segment_number}
use Rattle.divisions.specs.Award.{gives_more, wins_tie, better, pick}
use Rattle.choices.specs.Choice.{fits, width, filled}
use Rattle.choices.specs.Search.{each, through, leaf, search}
use Rattle.award.specs.Award.{row_of}
use Rattle.without.specs.Without.{book_without}
use Rattle.sheettext.specs.Sheet.{total_text, row_text, first_text, sheet_text, refusal_text}
use Rattle.workedcases.specs.Table.{table}
use Rattle.workedcases.proofs.Books.{books}
use Rattle.workedcases.proofs.Bytes.{eq_bytes}
use Rattle.workedcases.proofs.Small.{book_small}
use Rattle.workedcases.proofs.Fits.{book_fits}
use Rattle.workedcases.proofs.Test.{passes, all_pass}

pub computed : all_pass table books ≡ true
unfolding table books every price_of segment_in_range bid_in_range segments_rise start_not_negative bid_verdict bids_verdict order_in_range book_verdict supply_of on price_at number_from segment_number
    printed_bands sample_above sample_of gives_more wins_tie better pick fits width filled each through leaf search row_of book_without digits_within digits signed_digits segment_text bid_head bid_text
    book_head book_text total_text row_text first_text sheet_text refusal_text eq_bytes book_small book_fits passes all_pass
computed = refl
