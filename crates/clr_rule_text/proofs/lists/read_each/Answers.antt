use Rattle.std.proofs.Common.{◌+◌, Ok, Err, drop, refl}
use Rattle.std.proofs.lemmas.Fn.{says_at}
use Rattle.std.proofs.lemmas.List.{drop_all}
use Rattle.std.proofs.lemmas.Result.{err_from_is_err_and}
use Rattle.clr_rule_text.specs.Fields.{each_in}
use Rattle.clr_rule_text.proofs.EachIn.{goes_on, ends, is_done, from_position}
use Rattle.clr_rule_text.proofs.lists.read_each.Goals as goal

pub returns-in_err-one : goal.returns-in_err-one
returns-in_err-one g c =
    let p = err_from_is_err_and c.from_residual-in_err-one.result c.from_residual-in_err-one.ensures.1 in
    let x = c.element-item.result in
    let e = c.in_err-one.field-0.0 in
    let others = drop (c.loop-element.element-index + 1) c.args.elements.now in
    let here = from_position c.args.elements.now c.loop-element.element-index x c.loop-element-test.true c.element-item.is in
    rw (p.1, p.2) (λ f reads. ends f e c.loop-element.list.items x others (each_in f c.args.elements.now)
    (reads x (Err e) (says_at g.F.Fn c.in_err-one.ensures refl)) (rw here at c.loop-element.invariant f reads))

pub loop-element-preserved : goal.loop-element-preserved
loop-element-preserved g c =
    let x = c.element-item.result in
    let y = c.in_ok-one.one in
    let others = drop (c.loop-element.element-index + 1) c.args.elements.now in
    let here = from_position c.args.elements.now c.loop-element.element-index x c.loop-element-test.true c.element-item.is in
    rw c.in_ok-push.ensures.items (λ f reads. goes_on f c.loop-element.list.items x others y (each_in f c.args.elements.now)
    (reads x (Ok y) (says_at g.F.Fn c.in_ok-one.ensures refl)) (rw here at c.loop-element.invariant f reads))

pub returns : goal.returns
returns g c =
    let none = drop_all c.loop-element.element-index c.args.elements.now c.loop-element-test.false in
    λ f reads. is_done f c.loop-element.list.items (each_in f c.args.elements.now) (rw none at c.loop-element.invariant f reads)
