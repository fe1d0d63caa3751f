use Rattle.std.proofs.Common.{sym, ◌∙◌}
use Rattle.clr_workspaces.specs.Workspaces.{workspace_at}
use Rattle.clr_engine.proofs.Positions.{found_saved}
use Rattle.clr_engine.proofs.plain_commands.unmark.Goals as goal

pub unmark-requires-clause-saved : goal.unmark-requires-clause-saved
unmark-requires-clause-saved c = found_saved (workspace_at c.args.tree.now.list c.args.at).marks c.args.savepoint.now c.in-Some.mark (sym c.find_mark.ensures
    ∙ c.in-Some.is)
