use Rattle.std.proofs.Common.{List, sym, subst}
use Rattle.clr_workspaces.specs.Workspaces.{Workspace}
use Rattle.clr_grid.specs.Finders.{AreFinders}
use Rattle.clr_judges.specs.KeptContents.{kept_contents}
use Rattle.clr_engine.proofs.Served.{after_taking}
use Rattle.clr_engine.proofs.plain_commands.take_away.Goals as goal

pub returns-clause-finders : goal.returns-clause-finders
returns-clause-finders c = λ book are.
    subst (λ (ws : List Workspace). AreFinders book (kept_contents ws) c.remove-2.new.self) (sym c.remove.ensures)
    (after_taking c.args.tree.now.list c.args.at c.args.finders.now c.remove-2.new.self c.len-sound.ensures.sound c.requires.child c.requires.within
    c.remove-2.ensures book are)
