-- A book is refused by the rules, or for want of a division, or its award is made of its best division.
use Rattle.std.specs.Option.{ok_or}
use Rattle.std.proofs.Common.{◌≡◌, Err, sym, ap, ◌∙◌}
use Rattle.std.proofs.lemmas.Result.{err_from_is_err_and}
use Rattle.comparison.specs.Records.{found}
use Rattle.sampling.specs.Entries.{table_entries}
use Rattle.search.proofs.Found.{searchable}
use Rattle.clearing.proofs.Answers.{clear_refused, clear_none, is_award, clear_award}
use Rattle.clearing.proofs.awarded.Goals as goal

pub returns-in_err-check : goal.returns-in_err-check
returns-in_err-check c =
    let (refusal, is, same) = err_from_is_err_and c.from_residual.result c.from_residual.ensures.1 in
    clear_refused _ c.args.book _ refusal is (sym c.check.ensures ∙ c.in_err-check.was ∙ ap Err (sym same))

pub best_division-requires : goal.best_division-requires
best_division-requires c = searchable _ (sym c.in_ok-check.ensures)

pub returns-in_err-best : goal.returns-in_err-best
returns-in_err-best c =
    let (refusal, is, same) = err_from_is_err_and c.from_residual-in_err-best.result c.from_residual-in_err-best.ensures.1 in
    let none = c.in_err-best.ensures.ok_part in
    let told = c.in_err-best.ensures.value ∙ ap (λ division. ok_or division c.at.result) none in
    let refused : c.in_err-best.field-0.0 ≡ c.at.result = cc in
    clear_none _ c.args.book (sym c.in_ok-check.ensures) _ (is ∙ ap Err (same ∙ refused ∙ c.at.ensures))
    (ap (found c.args.book.count) (sym none) ∙ c.best_division.ensures)

pub rows-rows-requires : goal.rows-rows-requires
rows-rows-requires c =
    is_award (table_entries c.args.table) c.args.book (sym c.in_ok-check.ensures) c.in_ok-best.best
    (ap (found c.args.book.count) (sym c.in_ok-best.ensures.ok_part) ∙ c.best_division.ensures)

pub returns : goal.returns
returns c =
    let b = c.args.book in
    let award =
    is_award (table_entries c.args.table) b (sym c.in_ok-check.ensures) c.in_ok-best.best
    (ap (found b.count) (sym c.in_ok-best.ensures.ok_part) ∙ c.best_division.ensures) in
    clear_award _ b (sym c.in_ok-check.ensures) c.in_ok-best.best award _ c.rows-rows.ensures
