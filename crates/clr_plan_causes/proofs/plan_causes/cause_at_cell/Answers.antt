use Rattle.std.proofs.Common.{◌∙◌, List, ap, refl}
use Rattle.clr_map_scenes.specs.declared.shown_causes.CauseRow.{CauseRow}
use Rattle.clr_plan_causes.specs.CauseMarks.{middle_of_first, ring_at}
use Rattle.clr_plan_causes.proofs.plan_causes.cause_at_cell.Goals as goal

pub returns : goal.returns
returns c = (
  record { rows = c.in_ok-rows.rows; goers = c.new.result; mark = c.ring_at-mark.result; says = c.args.says },
  refl,
  record {
    rows = c.in_ok-rows.ensures;
    goers = c.new.ensures.items;
    marked = c.ring_at-mark.ensures
        ∙ ap ring_at (c.middle_of_first.ensures ∙ ap (λ (rows : List CauseRow). middle_of_first rows) c.as_slice.ensures.value);
    says = refl;
  },
)
