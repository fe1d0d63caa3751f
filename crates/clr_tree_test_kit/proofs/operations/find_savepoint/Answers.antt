use Rattle.std.proofs.Common.{◌≡◌, ℕ, true, List, [], Option, None, Some, sym}
use Rattle.std.specs.Prelude.{IfSome}
use Rattle.std.proofs.lemmas.List.Quantifiers.{position-Some}
use Rattle.clr_workspaces.specs.Marks.{Name, Mark, ChildMark, is_saved, is_saved_as, find_mark, mark_at}
use Rattle.clr_workspaces.specs.Workspaces.{workspace_at}
use Rattle.clr_workspaces.proofs.NameLemmas.{saved_as}
use Rattle.clr_tree_test_kit.proofs.operations.find_savepoint.Goals as goal

found_saved : (marks : List Mark) (name : Name) (found : Option ℕ) → found ≡ find_mark marks name → IfSome found (λ mark. is_saved (mark_at marks mark) ≡ true)
found_saved marks name None e = tt
found_saved marks name (Some i) e = saved_as name (mark_at marks i) (position-Some (is_saved_as name) marks i (ChildMark []) (sym e)).1

pub returns : goal.returns
returns c = found_saved (workspace_at c.args.tree.now.list c.args.at).marks c.args.savepoint.now c.find_mark.result c.find_mark.ensures
