-- The bidder, the segments and the end of the line, read one after the other.
use Rattle.std.proofs.Common.{ap, ◌∙◌}
use Rattle.forms.specs.Bytes.{ascii}
use Rattle.forms.specs.Word.{word}
use Rattle.scanner.proofs.Scanned.{scans_stop_as}
use Rattle.scanner.proofs.Three.{stops_at_second, stops_at_third, all_three}
use Rattle.booktext.specs.BookText.{bid_text}
use Rattle.booktext.specs.WellFormed.{WellFormedBid}
use Rattle.booktext.specs.Record.{bid_record}
use Rattle.booktext.specs.BookForm as Form
use Rattle.booktext.specs.BookForm.{bid_of}
use Rattle.booktext.proofs.BookForm.{bid_head_laws, segments_laws}
use Rattle.bookrecord.specs.Adding.{with_segments}
use Rattle.bookrecord.proofs.Kept.{segments_filled, no_segments}
use Rattle.booklines.proofs.bid.Goals as goal

pub segments-requires : goal.segments-requires
segments-requires c = let h = c.in_ok-head.ensures in no_segments h.0 c.in_ok-head.head h.1

pub returns-in_err-bid : goal.returns-in_err-bid
returns-in_err-bid c =
    let from = c.args.reader.now in
    let h = c.in_ok-head.ensures in
    let next = c.segments.new.reader in
    let stop = c.in_err-bid.field-0.0 in
    scans_stop_as Form.bid from next stop bid_record c.from_residual-in_err-bid.result c.from_residual-in_err-bid.ensures.1
    (stops_at_second bid_head_laws segments_laws (word (ascii ")\n")) (λ x. bid_of x.0 x.1.0) WellFormedBid bid_text from
    h.0 c.bidder.new.reader h.2 stop next c.in_err-bid.ensures)

pub returns-in_err-word : goal.returns-in_err-word
returns-in_err-word c =
    let from = c.args.reader.now in
    let h = c.in_ok-head.ensures in
    let s = c.in_ok-bid.ensures in
    let next = c.word.new.self in
    let stop = c.in_err-word.field-0.0 in
    scans_stop_as Form.bid from next stop bid_record c.from_residual-in_err-word.result c.from_residual-in_err-word.ensures.1
    (stops_at_third bid_head_laws segments_laws (word (ascii ")\n")) (λ x. bid_of x.0 x.1.0) WellFormedBid bid_text from
    h.0 c.bidder.new.reader h.2 s.0 c.segments.new.reader s.2 stop next c.in_err-word.ensures)

pub returns : goal.returns
returns c =
    let h = c.in_ok-head.ensures in
    let s = c.in_ok-bid.ensures in (
      bid_of h.0 s.0,
      s.1 ∙ ap (λ b. with_segments b s.0) h.1 ∙ segments_filled h.0 s.0,
      all_three bid_head_laws segments_laws (word (ascii ")\n")) (λ x. bid_of x.0 x.1.0) WellFormedBid bid_text c.args.reader.now
          h.0 c.bidder.new.reader h.2 s.0 c.segments.new.reader s.2 tt c.word.new.self c.in_ok-word.ensures,
    )
