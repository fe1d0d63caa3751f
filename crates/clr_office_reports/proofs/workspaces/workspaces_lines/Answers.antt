use Rattle.std.proofs.Common.{◌≡◌, ◌+◌, ◌++◌, ◌∷◌, [], List, ℕ, drop, Some, arith, ap, sym, ◌∙◌, append_assoc}
use Rattle.std.specs.List.{flat_map}
use Rattle.clr_steps.specs.Readings.{name_at}
use Rattle.clr_office_reports.specs.Workspaces.{names_below_live, workspace_line}
use Rattle.clr_office_reports.proofs.WorkspaceLines.{named_stands, names_from}
use Rattle.clr_office_reports.proofs.workspaces.workspaces_lines.Goals as goal

pub add_workspace_line-requires : goal.add_workspace_line-requires
add_workspace_line-requires c =
    let o = c.args.office.now in
    let is = c.name_at.ensures in
    let there = c.unwrap-name.ensures in
    let named : name_at o c.loop-position.position ≡ Some c.unwrap-name.result.now = sym (rw there at is) in
    named_stands o c.loop-position.position c.unwrap-name.result.now named

pub loop-position-preserved : goal.loop-position-preserved
loop-position-preserved c =
    let o = c.args.office.now in
    let is = c.name_at.ensures in
    let there = c.unwrap-name.ensures in
    let name = c.unwrap-name.result.now in
    let position = c.loop-position.position in
    let named : name_at o position ≡ Some name = sym (rw there at is) in
    let next = names_from o position name (omega (arith, c.loop-position.auto.position)) named in
    let lines = c.loop-position.lines.items in
    rw c.in_ok-add_workspace_line.ensures (append_assoc lines (workspace_line o name) (flat_map (workspace_line o) (drop (position + 1) ([]
    ∷ names_below_live o)))
    ∙ ap (λ (names : List (List ℕ)). lines ++ flat_map (workspace_line o) names) (sym next) ∙ c.loop-position.invariant)
