use Rattle.std.proofs.Common.{◌∙◌, List, ap, slice_get, sym}
use Rattle.clr_rules.specs.declared.needs.Broken.{Broken}
use Rattle.clr_rules.specs.Needs.{broken_cmp}
use Rattle.clr_rules.proofs.BrokenOrder.{broken_exact}
use Rattle.clr_audit.proofs.LeastLaws.{least_listed}
use Rattle.clr_audit.proofs.searching.least_up_to.Goals as goal

pub put_in_order-requires : goal.put_in_order-requires
unfolding broken_cmp
put_in_order-requires c = broken_exact

pub returns-in-Some-clause-least : goal.returns-in-Some-clause-least
unfolding broken_cmp
returns-in-Some-clause-least c = least_listed c.args.list.now.items c.put_in_order.new.list.items c.in-Some.need.now c.put_in_order.ensures.ascending
    c.put_in_order.ensures.same
    (sym (c.in-Some.ensures.value ∙ ap (λ (xs : List Broken). slice_get xs 0) c.as_slice.ensures.value))
