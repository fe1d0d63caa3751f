use Rattle.std.proofs.Common.{◌≡◌, ◌∙◌, List, None, map, subst, sym}
use Rattle.clr_rows.specs.declared.tables.TableDef.{TableDef}
use Rattle.clr_rows.specs.Schemas.{schema_fault}
use Rattle.clr_merge_sets.specs.MergeSetNames.{merge_set}
use Rattle.clr_plan.specs.Certificates.{IsWhole}
use Rattle.clr_ordered_plans.proofs.InOrderLaws.{exact_in_order, listed_in_order, none_without_pairs, of_need_named, promise_in_order, same_in_order}
use Rattle.clr_ordered_plans.proofs.InOrderLaws.{same_without_pairs, unfit_in_order}
use Rattle.clr_ordered_plans.proofs.ReadableInOrder.{readable_in_order}
use Rattle.clr_ordered_plans.proofs.ordered_plans.plan_changes_in_order.Goals as goal

pub plan_need_in_order-requires-clause-named : goal.plan_need_in_order-requires-clause-named
plan_need_in_order-requires-clause-named c =
    let o = c.args.office.now in
    let s = merge_set c.args.root.now (map (λ name. name.now) c.args.members.now) in
    of_need_named o s c.plan_changes-plan.result c.plan_changes-plan.ensures.plan (sym c.is_of_need.ensures ∙ c.if-is_of_need.true)

pub returns-then-is_of_need : goal.returns-then-is_of_need
returns-then-is_of_need c =
    let o = c.args.office.now in
    let s = merge_set c.args.root.now (map (λ name. name.now) c.args.members.now) in
    let blocked = c.plan_changes-plan.result in
    let p = c.plan_need_in_order.result in
    let h = c.plan_need_in_order.ensures in
    let in_order = listed_in_order o s p h in
    let tables = subst (λ (tables : List TableDef). schema_fault tables ≡ None) c.schema.ensures.value c.tables-tables.ensures.sound in
    let whole : IsWhole o = record { tables = tables; admitted = c.book-rules.ensures.admitted; tree = c.len-tree.ensures.sound } in
    record {
      plan = in_order;
      unfit = unfit_in_order o s p in_order;
      promises = promise_in_order o s p in_order;
      exact = exact_in_order o s p in_order;
      readable = readable_in_order o s p whole h;
      without_pairs = none_without_pairs o s blocked c.plan_changes-plan.ensures.plan (sym c.is_of_need.ensures ∙ c.if-is_of_need.true) p in_order;
    }

pub returns : goal.returns
returns c =
    let o = c.args.office.now in
    let s = merge_set c.args.root.now (map (λ name. name.now) c.args.members.now) in
    let p = c.plan_changes-plan.result in
    let h = c.plan_changes-plan.ensures.plan in
    let in_order = same_in_order o s p h (sym c.is_of_need.ensures ∙ c.if-is_of_need.false) in
    record {
      plan = in_order;
      unfit = unfit_in_order o s p in_order;
      promises = promise_in_order o s p in_order;
      exact = exact_in_order o s p in_order;
      readable = c.plan_changes-plan.ensures.readable;
      without_pairs = same_without_pairs o s p h;
    }
