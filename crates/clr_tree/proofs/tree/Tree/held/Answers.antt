use Rattle.std.proofs.Common.{List, ap, sym, ◌∙◌}
use Rattle.clr_workspaces.specs.Marks.{Mark, is_held}
use Rattle.clr_workspace_parts.proofs.MarkLemmas.{held_as_stored}
use Rattle.clr_tree.proofs.tree.Tree.held.Goals as goal

pub returns : goal.returns
returns c =
    c.has_child_after.ensures
    ∙ sym (ap (λ (ms : List Mark). is_held ms c.args.mark) c.stored_marks-marks.ensures ∙ held_as_stored _ c.stored_marks-marks.result.now c.args.mark)
