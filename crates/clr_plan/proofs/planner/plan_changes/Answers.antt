use Rattle.std.proofs.Common.{◌≡◌, List, None, map, subst}
use Rattle.clr_rows.specs.declared.tables.TableDef.{TableDef}
use Rattle.clr_rows.specs.Schemas.{schema_fault}
use Rattle.clr_merge_sets.specs.MergeSetNames.{merge_set}
use Rattle.clr_plan.proofs.PromiseLaws.{exact_law, lasting_law, promise_law, unfit_law}
use Rattle.clr_plan.specs.Certificates.{IsWhole}
use Rattle.clr_plan.proofs.ReadableLaws.{readable}
use Rattle.clr_plan.proofs.planner.plan_changes.Goals as goal

pub returns-in-Ok : goal.returns-in-Ok
returns-in-Ok c =
    let o = c.args.office.now in
    let s = merge_set c.args.root.now (map (λ name. name.now) c.args.members.now) in
    let p = c.plan_parts.result in
    let h = c.plan_parts.ensures in
    let tables = subst (λ (tables : List TableDef). schema_fault tables ≡ None) c.schema.ensures.value c.tables-tables.ensures.sound in
    let whole : IsWhole o = record { tables = tables; admitted = c.book-rules.ensures.admitted; tree = c.len-tree.ensures.sound } in
    record {
      plan = h;
      unfit = unfit_law o s p h;
      promises = promise_law o s p h;
      exact = exact_law o s p h;
      lasts = lasting_law o s p h;
      readable = readable o s p whole h;
    }

pub returns-in-Err : goal.returns-in-Err
returns-in-Err c =
    let o = c.args.office.now in
    let s = merge_set c.args.root.now (map (λ name. name.now) c.args.members.now) in
    let p = c.plan_fault.result in
    let h = c.plan_fault.ensures o s c.in-Err.ensures.fault in
    let tables = subst (λ (tables : List TableDef). schema_fault tables ≡ None) c.schema.ensures.value c.tables-tables.ensures.sound in
    let whole : IsWhole o = record { tables = tables; admitted = c.book-rules.ensures.admitted; tree = c.len-tree.ensures.sound } in
    record {
      plan = h;
      unfit = unfit_law o s p h;
      promises = promise_law o s p h;
      exact = exact_law o s p h;
      lasts = lasting_law o s p h;
      readable = readable o s p whole h;
    }
