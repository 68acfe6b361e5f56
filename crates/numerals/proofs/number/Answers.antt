-- The loop keeps the value of the digits passed and that they begin a number; it ends before the first byte that is no further digit. Assumes nothing.
use Rattle.std.proofs.Common.{rules, arith, ◌<◌, length, refl, sym}
use Rattle.forms.specs.Tests.{is_first, goes_on}
use Rattle.numerals.proofs.Numbers.{digit_within, digit_small, number_none, number_first, number_goes, number_done}
use Rattle.numerals.proofs.number.Goals as goal

pub returns-in_default-clause-scans : goal.returns-in_default-clause-scans
returns-in_default-clause-scans c = number_none c.args.least c.args.reader.now (sym c.in_default.ensures)

pub overflow_add-reader : goal.overflow_add-reader
overflow_add-reader c =
    let r = c.args.reader.now in
    let within : r.at < length r.text.now = digit_within (is_first c.args.least) r.text.now r.at c.in-Some.value (sym c.in-Some.ensures) in
    search rules

pub invariant_of-reader : goal.invariant_of-reader
invariant_of-reader c =
    let r = c.args.reader.now in
    let within : r.at < length r.text.now = digit_within (is_first c.args.least) r.text.now r.at c.in-Some.value (sym c.in-Some.ensures) in
    search rules

pub loop-digit-init : goal.loop-digit-init
loop-digit-init c = number_first c.args.least c.args.reader.now c.in-Some.value (sym c.in-Some.ensures) _ refl refl

pub overflow_add-value : goal.overflow_add-value
overflow_add-value c =
    let l = c.loop-digit in
    let small = digit_small l.value _ c.in-Some-further.digit (sym c.in-Some-further.ensures) in
    search rules

pub overflow_add-reader-in-Some-further : goal.overflow_add-reader-in-Some-further
overflow_add-reader-in-Some-further c =
    let r = c.loop-digit.reader in
    let within : r.at < length r.text.now =
    digit_within (goes_on c.loop-digit.value) r.text.now r.at c.in-Some-further.digit (sym c.in-Some-further.ensures) in
    search rules

pub invariant_of-reader-in-Some-further : goal.invariant_of-reader-in-Some-further
invariant_of-reader-in-Some-further c =
    let r = c.loop-digit.reader in
    let within : r.at < length r.text.now =
    digit_within (goes_on c.loop-digit.value) r.text.now r.at c.in-Some-further.digit (sym c.in-Some-further.ensures) in
    search rules

pub loop-digit-smaller : goal.loop-digit-smaller
loop-digit-smaller c =
    let r = c.loop-digit.reader in
    let within : r.at < length r.text.now =
    digit_within (goes_on c.loop-digit.value) r.text.now r.at c.in-Some-further.digit (sym c.in-Some-further.ensures) in
    omega arith

pub loop-digit-preserved : goal.loop-digit-preserved
loop-digit-preserved c =
    let l = c.loop-digit in
    number_goes c.args.least c.args.reader.now l.value l.reader l.invariant c.in-Some-further.digit (sym c.in-Some-further.ensures) _ refl refl

pub returns-clause-scans : goal.returns-clause-scans
returns-clause-scans c =
    let l = c.loop-digit in
    number_done c.args.least c.args.reader.now l.value l.reader l.invariant (sym c.in_default-further.ensures)
