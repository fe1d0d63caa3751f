use Rattle.std.proofs.Common.{List, ap, sym, ◌∙◌}
use Rattle.clr_workspaces.specs.Marks.{Mark, saved_count}
use Rattle.clr_workspace_parts.proofs.MarkLemmas.{saved_as_stored}
use Rattle.clr_tree.proofs.tree.Tree.saved.Goals as goal

pub returns : goal.returns
returns c = c.count_saved.ensures ∙ sym (ap (λ (ms : List Mark). saved_count ms) c.stored_marks.ensures ∙ saved_as_stored _ c.stored_marks.result.now)
