use Rattle.std.proofs.Common.{◌≡◌, ◌∙◌, List, Contains, Option, ap, subst, sym}
use Rattle.std.specs.Prelude.{IfOk}
use Rattle.std.specs.List.Sorted.{IsStrictlySortedBy}
use Rattle.clr_rules.specs.declared.needs.Broken.{Broken}
use Rattle.clr_rules.specs.Needs.{broken_cmp, broken_needs}
use Rattle.clr_rules.proofs.BrokenOrder.{broken_exact}
use Rattle.clr_audit.specs.Unknown.{first_beside}
use Rattle.clr_audit.proofs.UnknownLaws.{same_beside, where_none_known}
use Rattle.clr_audit.proofs.unknown_needs.first_unknown.Goals as goal

pub put_in_order-requires : goal.put_in_order-requires
unfolding broken_cmp
put_in_order-requires c = broken_exact

pub returns-then-is_empty : goal.returns-then-is_empty
returns-then-is_empty c =
    subst (λ (first : Option Broken). IfOk c.first_broken.result (λ need. need ≡ first))
    (where_none_known c.args.known.now (broken_needs c.args.book.now c.args.sheet.now) (sym c.is_empty.ensures ∙ c.if-is_empty.true)) c.first_broken.ensures

pub returns : goal.returns
returns c =
    c.first_beside.ensures ∙ (λ i. first_beside (c.as_slice.ensures.value i) (c.as_slice-2.ensures.value i))
    ∙ same_beside c.args.known.now c.put_in_order.new.list.items c.in_ok-needs.needs.items
    (λ b. subst (λ (old : List Broken). (Contains c.put_in_order.new.list.items b → Contains old b) × (Contains old b → Contains c.put_in_order.new.list.items b))
    c.in_ok-in_order.ensures.items (c.put_in_order.ensures.same b))
    ∙ ap (first_beside c.args.known.now) c.in_ok-needs.ensures.list

pub first_beside-requires : goal.first_beside-requires
unfolding broken_cmp
first_beside-requires c = subst (IsStrictlySortedBy broken_cmp) (sym c.as_slice.ensures.value) c.put_in_order.ensures.ascending
