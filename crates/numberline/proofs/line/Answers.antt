-- A word, the numbers and a word, read one after the other. Assumes nothing.
use Rattle.std.proofs.Common.{◌-◌}
use Rattle.forms.specs.Word.{word}
use Rattle.forms.specs.Combined.{framed}
use Rattle.forms.specs.Spaced.{numbers, numbers_in}
use Rattle.forms.proofs.Word.{word_laws}
use Rattle.forms.proofs.Spaced.{numbers_laws}
use Rattle.scanner.proofs.Scanned.{scans_stop_ok}
use Rattle.scanner.proofs.Three.{stops_at_second, stops_at_third}
use Rattle.numberline.proofs.line.Goals as goal

pub returns-in_err-values : goal.returns-in_err-values
returns-in_err-values g c =
    let a = c.args in
    let n = g.row.N - 1 in
    let whole = framed a.start.now (numbers n) a.close.now in
    let next = c.spaced.new.reader in
    let stop = c.in_err-values.field-0.0 in
    scans_stop_ok whole a.reader.now next stop (numbers_in n) c.from_residual-in_err-values.result c.from_residual-in_err-values.ensures.1
    (stops_at_second (word_laws a.start.now) (numbers_laws n) (word a.close.now) (λ x. x.1.0) whole.Valid whole.text
    a.reader.now tt c.word.new.self c.in_ok-word.ensures stop next c.in_err-values.ensures)

pub returns-in_err-word-2 : goal.returns-in_err-word-2
returns-in_err-word-2 g c =
    let a = c.args in
    let n = g.row.N - 1 in
    let whole = framed a.start.now (numbers n) a.close.now in
    let next = c.word-2.new.self in
    let stop = c.in_err-word-2.field-0.0 in
    scans_stop_ok whole a.reader.now next stop (numbers_in n) c.from_residual-in_err-word-2.result c.from_residual-in_err-word-2.ensures.1
    (stops_at_third (word_laws a.start.now) (numbers_laws n) (word a.close.now) (λ x. x.1.0) whole.Valid whole.text
    a.reader.now tt c.word.new.self c.in_ok-word.ensures (numbers_in n c.in_ok-values.values) c.spaced.new.reader c.in_ok-values.ensures
    stop next c.in_err-word-2.ensures)
