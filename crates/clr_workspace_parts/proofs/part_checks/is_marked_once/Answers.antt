use Rattle.std.proofs.Common.{◌||◌, ◌==◌, not, ap, sym, ◌∙◌}
use Rattle.std.specs.Str.{bytes_eq}
use Rattle.clr_rows.specs.Contents.{no_rows}
use Rattle.clr_workspaces.specs.Marks.{mark_count}
use Rattle.clr_deltas.specs.Deltas.{wholes}
use Rattle.clr_workspaces.specs.Workspaces.{workspace_at}
use Rattle.clr_deltas.proofs.Meaning.{name-wholes, parent-wholes}
use Rattle.clr_workspace_parts.specs.Parts.{bare_marks}
use Rattle.clr_workspace_parts.proofs.MarkLemmas.{marks_as_stored}
use Rattle.clr_workspace_parts.proofs.part_checks.is_marked_once.Goals as goal

pub returns-then-ne : goal.returns-then-ne
returns-then-ne c =
    let w = workspace_at (wholes c.args.live.now c.args.map.now) c.args.at in
    let other = sym c.if-ne.true ∙ c.ne.ensures
    ∙ ap (λ n. not (bytes_eq c.args.parent.now n)) (c.parent_name.ensures ∙ sym (parent-wholes c.args.live.now c.args.map.now c.args.at)) in
    c.if-ne.true ∙ ap (λ b. b || mark_count (bare_marks c.args.marks.now) w.name == 1) other

pub returns-else-ne : goal.returns-else-ne
returns-else-ne c =
    let w = workspace_at (wholes c.args.live.now c.args.map.now) c.args.at in
    let same = sym c.if-ne.false ∙ c.ne.ensures
    ∙ ap (λ n. not (bytes_eq c.args.parent.now n)) (c.parent_name.ensures ∙ sym (parent-wholes c.args.live.now c.args.map.now c.args.at)) in
    let counted = c.count_marks_of.ensures ∙ sym (marks_as_stored no_rows _ c.args.marks.now) in
    ap (λ n. n == 1) (counted ∙ ap (mark_count (bare_marks c.args.marks.now)) (c.name_at.ensures ∙ sym (name-wholes c.args.live.now c.args.map.now c.args.at)))
    ∙ ap (λ b. b || mark_count (bare_marks c.args.marks.now) w.name == 1) same
