-- The numbers, the fixed price and the bracket, read one after the other.
use Rattle.forms.specs.Bytes.{ascii}
use Rattle.forms.specs.Word.{word}
use Rattle.forms.specs.Spaced.{numbers_in}
use Rattle.forms.proofs.Signed.{signed_laws}
use Rattle.scanner.proofs.Scanned.{scans_stop}
use Rattle.scanner.proofs.Three.{stops_at_second, stops_at_third}
use Rattle.booktext.specs.BookText.{segment_text}
use Rattle.booktext.specs.WellFormed.{WellFormedSegment}
use Rattle.booktext.specs.BookForm as Form
use Rattle.booktext.specs.BookForm.{to_segment}
use Rattle.booktext.proofs.BookForm.{segment_numbers_laws}
use Rattle.booklines.proofs.segments.segment.Goals as goal

pub returns-in_err-fixed : goal.returns-in_err-fixed
returns-in_err-fixed c =
    let from = c.args.reader.now in
    let next = c.signed.new.reader in
    let stop = c.in_err-fixed.field-0.0 in
    let x = numbers_in 2 c.in_ok-start.field-0 in
    scans_stop Form.segment from next stop c.from_residual-in_err-fixed.result c.from_residual-in_err-fixed.ensures.1
    (stops_at_second segment_numbers_laws signed_laws (word (ascii ")")) to_segment WellFormedSegment segment_text from
    x c.line.new.reader c.in_ok-start.ensures stop next c.in_err-fixed.ensures)

pub returns-in_err-word : goal.returns-in_err-word
returns-in_err-word c =
    let from = c.args.reader.now in
    let next = c.word.new.self in
    let stop = c.in_err-word.field-0.0 in
    let x = numbers_in 2 c.in_ok-start.field-0 in
    scans_stop Form.segment from next stop c.from_residual-in_err-word.result c.from_residual-in_err-word.ensures.1
    (stops_at_third segment_numbers_laws signed_laws (word (ascii ")")) to_segment WellFormedSegment segment_text from
    x c.line.new.reader c.in_ok-start.ensures c.in_ok-fixed.fixed c.signed.new.reader c.in_ok-fixed.ensures stop next c.in_err-word.ensures)
