use Rattle.std.proofs.Common.{List, ap, sym, ◌∙◌}
use Rattle.clr_workspaces.specs.Marks.{Mark, find_mark}
use Rattle.clr_workspace_parts.proofs.MarkLemmas.{found_as_stored}
use Rattle.clr_tree.proofs.tree.Tree.find_mark.Goals as goal

pub returns : goal.returns
returns c =
    c.find_saved.ensures
    ∙ sym (ap (λ (ms : List Mark). find_mark ms c.args.name.now) c.stored_marks.ensures ∙ found_as_stored _ c.args.name.now c.stored_marks.result.now)
