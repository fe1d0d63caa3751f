use Rattle.std.proofs.Common.{◌≡◌, [], Ok, Err, arith}
use Rattle.std.proofs.lemmas.List.{nil_from_length}
use Rattle.std.proofs.lemmas.Result.{err_from_is_err_and}
use Rattle.std.specs.Vec.Iter.{into_iter_items}
use Rattle.clr_rule_text.specs.Fields.{each_in}
use Rattle.clr_rule_text.proofs.EachIn.{goes_on, ends, is_done}
use Rattle.clr_rule_text.proofs.lists.make_each.Goals as goal

pub returns-in_err-one : goal.returns-in_err-one
returns-in_err-one g c =
    let p = err_from_is_err_and c.from_residual-in_err-one.result c.from_residual-in_err-one.ensures.1 in
    let x = c.in-Some.element in
    let e = c.in_err-one.field-0.0 in
    rw (p.1, p.2) (λ f reads. ends f e c.loop-element.list.items x (into_iter_items c.next.new.self) (each_in f c.args.elements.items)
    (reads x (Err e) c.in_err-one.ensures) (rw c.in-Some.ensures.steps.0 at c.loop-element.invariant f reads))

pub loop-element-preserved : goal.loop-element-preserved
loop-element-preserved g c =
    let x = c.in-Some.element in
    let y = c.in_ok-one.one in
    rw c.in_ok-push.ensures.items (λ f reads. goes_on f c.loop-element.list.items x (into_iter_items c.next.new.self) y (each_in f c.args.elements.items)
    (reads x (Ok y) c.in_ok-one.ensures) (rw c.in-Some.ensures.steps.0 at c.loop-element.invariant f reads))

pub returns : goal.returns
returns g c =
    let none : into_iter_items c.loop-element.element-iterator ≡ [] = nil_from_length _ (omega (arith, c.in-None.ensures.steps.0)) in
    λ f reads. is_done f c.loop-element.list.items (each_in f c.args.elements.items) (rw none at c.loop-element.invariant f reads)
