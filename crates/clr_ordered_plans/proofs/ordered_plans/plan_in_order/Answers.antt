use Rattle.std.proofs.Common.{◌≡◌, List, None, map, subst}
use Rattle.clr_rows.specs.declared.tables.TableDef.{TableDef}
use Rattle.clr_rows.specs.Schemas.{schema_fault}
use Rattle.clr_merge_sets.specs.MergeSetNames.{merge_set}
use Rattle.clr_plan.specs.Certificates.{IsWhole}
use Rattle.clr_plan.proofs.ReadableLaws.{readable}
use Rattle.clr_ordered_plans.proofs.InOrderLaws.{exact_in_order, promise_in_order, same_in_order, same_without_pairs, unfit_in_order}
use Rattle.clr_ordered_plans.proofs.ordered_plans.plan_in_order.Goals as goal

pub returns-in-Err : goal.returns-in-Err
returns-in-Err c =
    let o = c.args.office.now in
    let s = merge_set c.args.root.now (map (λ name. name.now) c.args.members.now) in
    let p = c.plan_without_changes.result in
    let h = c.plan_without_changes.ensures.plan in
    let in_order = same_in_order o s p h c.plan_without_changes.ensures.unblocked in
    let tables = subst (λ (tables : List TableDef). schema_fault tables ≡ None) c.schema.ensures.value c.tables-tables.ensures.sound in
    let whole : IsWhole o = record { tables = tables; admitted = c.book-rules.ensures.admitted; tree = c.len-tree.ensures.sound } in
    record {
      plan = in_order;
      unfit = unfit_in_order o s p in_order;
      promises = promise_in_order o s p in_order;
      exact = exact_in_order o s p in_order;
      readable = readable o s p whole h;
      without_pairs = same_without_pairs o s p h;
    }
