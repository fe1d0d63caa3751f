-- The lines of names that are left.
use Rattle.std.specs.Prelude.{ℕ, List, [], ◌++◌, Option, None, Some, codes}
use Rattle.clr_rows.specs.declared.tables.TableDef.{TableDef}
use Rattle.clr_workspaces.specs.Marks.{Name}
use Rattle.clr_merge_sets.specs.declared.plans.Plan.{Plan}
use Rattle.clr_plan.specs.PlanLines.{plan_text}
use Rattle.clr_choices.specs.Trials.{Trial, members_tried}

-- the line `left NAME`, and the lines of the plan that says why
abbrev pub refusal_text : List TableDef → Name → List Name → Name → Plan → List ℕ
refusal_text tables root members name p = codes "left " ++ name ++ codes "\n" ++ plan_text tables members root p

-- the lines of a name for which there is such a plan
abbrev pub refusal_if_any : List TableDef → Name → List Name → Name → Option Plan → List ℕ
refusal_if_any tables root members name None = []
refusal_if_any tables root members name (Some p) = refusal_text tables root members name p

-- the lines of a name that is left, and nothing for one that is taken
abbrev pub left_text : List TableDef → Name → Trial → List ℕ
left_text tables root t = refusal_if_any tables root (members_tried t) t.name t.refusal
