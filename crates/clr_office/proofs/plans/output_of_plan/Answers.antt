use Rattle.std.proofs.Common.{◌≡◌, List, map, not, ap, subst}
use Rattle.clr_rows.specs.declared.tables.TableDef.{TableDef}
use Rattle.clr_plan.specs.PlanLines.{plan_text}
use Rattle.clr_office_reports.proofs.Outcomes.{parts_are}
use Rattle.clr_office.proofs.plans.output_of_plan.Goals as goal

pub returns : goal.returns
returns c =
    let o = c.args.office.now in
    let names = map (λ name. name.now) c.args.members.now in
    let lines = c.in_ok-lines.lines.items in
    let shown : lines ≡ plan_text o.schema names c.args.root.now c.args.plan.now =
    subst (λ (tables : List TableDef). lines ≡ plan_text tables names c.args.root.now c.args.plan.now) c.schema.ensures.value c.in_ok-lines.ensures in
    parts_are o _ _ _ _ _ _ shown (ap not c.is_cleared.ensures) c.is_out_of_memory.ensures
