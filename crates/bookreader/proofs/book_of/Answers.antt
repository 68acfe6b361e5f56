-- By cases: too long, stopped, bytes left over, refused by a rule, accepted; each is a law of every kind of text (`textreading`).
use Rattle.textreading.proofs.Parsed.{too_long, stopped, goes_on, broken, passed}
use Rattle.bookreader.proofs.Answers.{books}
use Rattle.bookreader.proofs.book_of.Goals as goal

pub returns-in_err-unless : goal.returns-in_err-unless
returns-in_err-unless c =
    let e = c.in_err-unless in
    too_long books c.args.text.now e.field-0.0 e.ensures c.from_residual.result c.from_residual.ensures.1

pub returns-in_err-book : goal.returns-in_err-book
returns-in_err-book c =
    let r = c.new-reader in
    let e = c.in_err-book in
    let given = c.from_residual-in_err-book in
    stopped books c.args.text.now c.in_ok-unless.ensures r.result r.ensures.text r.ensures.start c.lines.new.reader e.field-0.0 e.ensures
    given.result given.ensures.1

pub returns-in_err-unless-2 : goal.returns-in_err-unless-2
returns-in_err-unless-2 c =
    let r = c.new-reader in
    let e = c.in_err-unless-2 in
    let given = c.from_residual-in_err-unless-2 in
    goes_on books c.args.text.now c.in_ok-unless.ensures r.result r.ensures.text r.ensures.start c.lines.new.reader c.in_ok-book.book
    c.in_ok-book.ensures e.field-0.0 e.ensures given.result given.ensures.1

pub returns-in_err-check : goal.returns-in_err-check
returns-in_err-check c =
    let r = c.new-reader in
    let e = c.in_err-check in
    let given = c.from_residual-in_err-check in
    broken books c.args.text.now c.in_ok-unless.ensures r.result r.ensures.text r.ensures.start c.lines.new.reader c.in_ok-book.book
    c.in_ok-book.ensures c.in_ok-unless-2.ensures e.field-0.0 e.ensures given.result given.ensures.1

pub returns : goal.returns
returns c =
    let r = c.new-reader in
    passed books c.args.text.now c.in_ok-unless.ensures r.result r.ensures.text r.ensures.start c.lines.new.reader c.in_ok-book.book
    c.in_ok-book.ensures c.in_ok-unless-2.ensures c.in_ok-check.ensures
