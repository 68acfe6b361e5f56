-- The word and the numbers, read one after the other.
use Rattle.std.proofs.Common.{Ok, Err}
use Rattle.forms.specs.Bytes.{ascii}
use Rattle.forms.specs.Spaced.{numbers, numbers_in}
use Rattle.forms.proofs.Word.{word_laws}
use Rattle.scanner.proofs.Scanned.{scans_then, scans_stop_as}
use Rattle.booktext.specs.Record.{bid_record}
use Rattle.booktext.specs.BookForm as Form
use Rattle.booklines.specs.Records.{bid_started}
use Rattle.booklines.proofs.bidder.Goals as goal

pub returns-in_err-bidder : goal.returns-in_err-bidder
returns-in_err-bidder c =
    let from = c.args.reader.now in
    let next = c.spaced.new.reader in
    let stop = c.in_err-bidder.field-0.0 in
    scans_stop_as Form.bid_head_lem from next stop bid_started c.from_residual-in_err-bidder.result c.from_residual-in_err-bidder.ensures.1
    (scans_then (word_laws (ascii "(bid ")) (numbers 1) from c.word.new.self tt c.in_ok-word.ensures (Err stop) next c.in_err-bidder.ensures)

pub returns : goal.returns
unfolding bid_record
returns c =
    let x = numbers_in 1 c.in_ok-bidder.field-0 in (
      (tt, x),
      rw c.empty_bid.ensures,
      scans_then (word_laws (ascii "(bid ")) (numbers 1) c.args.reader.now c.word.new.self tt c.in_ok-word.ensures (Ok x) c.spaced.new.reader c.in_ok-bidder.ensures,
    )
