use Rattle.std.proofs.Common.{◌≤◌, ◌∙◌, length, sym, arith}
use Rattle.std.proofs.lemmas.Result.{err_from_is_err_and}
use Rattle.clr_office_reading.proofs.PlacePairs.{goes_on, is_done, left_over, stops}
use Rattle.clr_office_reading.proofs.cells.places.Goals as goal

pub returns-in_err-one : goal.returns-in_err-one
returns-in_err-one g c =
    let e = err_from_is_err_and c.from_residual-in_err-one.result c.from_residual-in_err-one.ensures.1 in
    let two : 2 ≤ length c.loop-rest.rest.now = omega (arith, c.in-len2-up.len_at_least) in
    rw (e.1, e.2) (stops g.J.JsonValue.stands_for c.in_err-one.field-0.0 c.loop-rest.places.items c.loop-rest.rest.now _ _ _ two c.x-item.is c.y-item.is
    c.in_err-one.ensures c.loop-rest.invariant)

pub loop-rest-preserved : goal.loop-rest-preserved
loop-rest-preserved g c =
    let two : 2 ≤ length c.loop-rest.rest.now = omega (arith, c.in-len2-up.len_at_least) in
    rw c.in_ok-push.ensures.items (goes_on g.J.JsonValue.stands_for c.loop-rest.places.items c.loop-rest.rest.now _ _ c.in_ok-one.one _ two c.x-item.is
    c.y-item.is c.in_ok-one.ensures c.loop-rest.invariant)

pub returns-then-not-is_empty : goal.returns-then-not-is_empty
returns-then-not-is_empty g c = left_over g.J.JsonValue.stands_for c.loop-rest.places.items c.loop-rest.rest.now _ (sym c.if-not-is_empty.true
    ∙ c.is_empty.ensures) c.in_default.len_below c.loop-rest.invariant

pub returns : goal.returns
returns g c = is_done g.J.JsonValue.stands_for c.loop-rest.places.items c.loop-rest.rest.now _ (sym c.if-not-is_empty.false
    ∙ c.is_empty.ensures) c.loop-rest.invariant
