-- The lines of plans.
use Rattle.std.specs.Prelude.{ℕ, List, ◌++◌, codes, length}
use Rattle.std.specs.Fmt.{decimal}
use Rattle.std.specs.List.{flat_map}
use Rattle.clr_rows.specs.declared.tables.TableDef.{TableDef}
use Rattle.clr_workspaces.specs.Marks.{Name}
use Rattle.clr_clearance.specs.declared.verdicts.Verdict.{Verdict}
use Rattle.clr_cert.specs.declared.certificates.Certificate.{Certificate}
use Rattle.clr_cert.specs.Texts.{certificate_text}
use Rattle.clr_merge_sets.specs.declared.plans.Plan.{Plan}
use Rattle.clr_merge_sets.specs.declared.plans.Plan.TheVariants as plan
use Rattle.clr_lines.specs.Reports.{count_line}
use Rattle.clr_lines.specs.Verdicts.{verdict_text}
use Rattle.clr_member_changes.specs.Names.{member_name}

-- the lines of a cleared plan: how many entries there are, and then the certificate
abbrev pub cleared_text : List TableDef → Certificate → List ℕ
cleared_text tables c = count_line (codes "cleared") (length c.entries) ++ certificate_text tables c

-- the name of the member at a position, behind a space
abbrev pub order_name : List Name → ℕ → List ℕ
order_name members at = codes " " ++ member_name members at

-- the line of an order in which a merge is refused: how many members stand in it, and then their names
abbrev pub order_text : List Name → List ℕ → List ℕ
order_text members order = codes "blocked " ++ decimal (length order) ++ flat_map (order_name members) order ++ codes "\n"

-- the lines of a blocked plan: the order, and then the cause
abbrev pub blocked_text : List TableDef → List Name → Name → List ℕ → Verdict → List ℕ
blocked_text tables members root order cause = order_text members order ++ codes "cause " ++ verdict_text tables members root cause

-- the lines of a plan of members of a root
unfoldable pub plan_text : List TableDef → List Name → Name → Plan → List ℕ
plan_text tables members root (plan.Cleared c) = cleared_text tables c
plan_text tables members root (plan.Blocked order cause) = blocked_text tables members root order.items cause
plan_text tables members root (plan.Unfit v) = codes "unfit " ++ verdict_text tables members root v
plan_text tables members root plan.OutOfMemory = codes "refused 0 OutOfMemory\n"
