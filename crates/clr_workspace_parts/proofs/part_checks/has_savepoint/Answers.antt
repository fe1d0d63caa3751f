use Rattle.std.proofs.Common.{is_some, ap, sym, ◌∙◌}
use Rattle.clr_rows.specs.Contents.{no_rows}
use Rattle.clr_workspace_parts.specs.Parts.{bare_marks}
use Rattle.clr_workspace_parts.proofs.MarkLemmas.{found_as_stored}
use Rattle.clr_workspace_parts.proofs.PartLemmas.{any_savepoint}
use Rattle.clr_workspace_parts.proofs.part_checks.has_savepoint.Goals as goal

pub returns : goal.returns
returns c = c.is_some.ensures ∙ ap is_some (c.find_saved.ensures ∙ sym (found_as_stored no_rows c.args.name.now c.args.marks.now))
    ∙ any_savepoint c.args.name.now (bare_marks c.args.marks.now)
