use Rattle.std.proofs.Common.{◌&&◌, not, ap, sym, ◌∙◌}
use Rattle.std.specs.List.{list_any}
use Rattle.std.specs.Str.{bytes_eq}
use Rattle.clr_rows.specs.Names.{is_good_name}
use Rattle.clr_workspaces.specs.Marks.{saved_names}
use Rattle.clr_workspace_parts.specs.Parts.{bare_mark, bare_marks, has_new_name}
use Rattle.clr_workspace_parts.proofs.part_checks.has_new_name.Goals as goal

pub returns-then-good_name : goal.returns-then-good_name
returns-then-good_name c =
    let name = c.in-Saved.name in
    let later = c.args.later.now in
    let good = sym c.if-good_name.true ∙ c.good_name.ensures ∙ ap is_good_name c.as_str.ensures in
    let found = c.has_savepoint.ensures ∙ ap (λ n. list_any (bytes_eq n) (saved_names (bare_marks later))) c.as_str-then-good_name.ensures in
    ap not found ∙ ap (λ b. b && not (list_any (bytes_eq name) (saved_names (bare_marks later)))) good
    ∙ sym (ap (λ m. has_new_name (bare_mark m) (bare_marks later)) c.in-Saved.is)
