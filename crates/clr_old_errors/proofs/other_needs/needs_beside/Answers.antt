use Rattle.std.proofs.Common.{◌↔◌, Contains, List, subst, sym}
use Rattle.std.specs.List.Sorted.{IsStrictlySortedBy}
use Rattle.clr_rules.specs.declared.needs.Broken.{Broken}
use Rattle.clr_rules.specs.Needs.{broken_cmp}
use Rattle.clr_rules.proofs.BrokenOrder.{broken_exact}
use Rattle.clr_old_errors.proofs.KnownLemmas.{exactly, rises}
use Rattle.clr_old_errors.proofs.other_needs.needs_beside.Goals as goal

pub put_in_order-requires : goal.put_in_order-requires
unfolding broken_cmp
put_in_order-requires c = broken_exact

pub returns-clause-ascending : goal.returns-clause-ascending
unfolding broken_cmp
returns-clause-ascending c =
    let in_order = subst (IsStrictlySortedBy broken_cmp) (sym c.as_slice.ensures.value) c.put_in_order.ensures.ascending in
    subst (IsStrictlySortedBy broken_cmp) (sym c.in_ok-left.ensures) (rises c.args.others.now c.as_slice.result.now in_order)

pub returns-clause-exactly : goal.returns-clause-exactly
unfolding broken_cmp
returns-clause-exactly c =
    let others = c.args.others.now in
    let needs = c.args.needs.now in
    let same : (x : Broken) → Contains c.as_slice.result.now x ↔ Contains needs x =
    λ x. subst (λ (list : List Broken). Contains c.as_slice.result.now x ↔ Contains list x) c.in_ok-in_order.ensures.items
    (subst (λ (list : List Broken). Contains list x ↔ Contains c.in_ok-in_order.in_order.items x) (sym c.as_slice.ensures.value) (c.put_in_order.ensures.same x)) in
    λ need. subst (λ (list : List Broken). Contains list need ↔ (Contains needs need × ¬ (Contains others need))) (sym c.in_ok-left.ensures)
    (exactly others c.as_slice.result.now needs same need)
