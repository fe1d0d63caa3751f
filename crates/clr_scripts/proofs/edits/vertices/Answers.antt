use Rattle.std.proofs.Common.{◌≡◌, ◌+◌, ◌<◌, ◌≤◌, length, sym, arith}
use Rattle.std.proofs.lemmas.Result.{err_from_is_err_and}
use Rattle.csv.specs.Records.{fields_of}
use Rattle.clr_scripts.proofs.Fields.{goes_on, left_over, stops, whole}
use Rattle.clr_scripts.proofs.edits.vertices.Goals as goal

pub returns-in_err-place : goal.returns-in_err-place
returns-in_err-place c =
    let e = err_from_is_err_and c.from_residual.result c.from_residual.ensures.1 in
    let two : c.loop-list.at + 1 < length (fields_of c.args.fields.now) = omega (arith, c.loop-list-test.true, c.saturating_sub.ensures, c.len.ensures) in
    rw (e.1, e.2) (stops c.in_err-place.field-0.0 c.loop-list.list.items (fields_of c.args.fields.now) c.loop-list.at _ two (sym c.in_err-place.ensures)
    c.loop-list.invariant)

pub loop-list-preserved : goal.loop-list-preserved
loop-list-preserved c =
    let two : c.loop-list.at + 1 < length (fields_of c.args.fields.now) = omega (arith, c.loop-list-test.true, c.saturating_sub.ensures, c.len.ensures) in
    rw c.in_ok-push.ensures.items (goes_on c.loop-list.list.items (fields_of c.args.fields.now) c.loop-list.at c.in_ok-place.field-0 _ two
    (sym c.in_ok-place.ensures) c.loop-list.invariant)

pub returns-then-at-len : goal.returns-then-at-len
returns-then-at-len c =
    let one : c.loop-list.at + 1 ≡ length (fields_of c.args.fields.now) =
    omega (arith, c.loop-list-test.false, c.saturating_sub.ensures, c.len.ensures, c.if-at-len.true, c.len-2.ensures) in
    left_over c.loop-list.list.items (fields_of c.args.fields.now) c.loop-list.at _ one c.loop-list.invariant

pub returns : goal.returns
returns c =
    let none : length (fields_of c.args.fields.now) ≤ c.loop-list.at = omega (arith, c.if-at-len.false, c.len-2.ensures) in
    rw c.new.ensures (whole c.loop-list.list.items (fields_of c.args.fields.now) c.loop-list.at _ none c.loop-list.invariant)
