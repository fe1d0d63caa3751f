use Rattle.std.proofs.Common.{◌≡◌, ◌∙◌, sym, refl}
use Rattle.clr_workspaces.specs.Marks.{mark_at, saved_content}
use Rattle.clr_workspaces.specs.Workspaces.{workspace_at}
use Rattle.clr_workspaces.specs.Operations.{roll_to}
use Rattle.clr_judges.proofs.Kept.{other_content}
use Rattle.clr_engine.proofs.Positions.{found_saved}
use Rattle.clr_judges.proofs.Prepared.{finished, where_none, within_mid}
use Rattle.clr_engine.proofs.commands.roll_to.Goals as goal

pub prepare_savepoint-requires-clause-saved : goal.prepare_savepoint-requires-clause-saved
prepare_savepoint-requires-clause-saved c = found_saved (workspace_at c.args.tree.now.list c.args.at).marks c.args.savepoint.now c.in-Some.mark
    (sym c.find_mark.ensures ∙ c.in-Some.is)

pub roll_to-done-requires-clause-saved : goal.roll_to-done-requires-clause-saved
roll_to-done-requires-clause-saved c = found_saved (workspace_at c.args.tree.now.list c.args.at).marks c.args.savepoint.now c.in-Some.mark
    (sym c.find_mark.ensures ∙ c.in-Some.is)

pub finish-requires : goal.finish-requires
finish-requires c = within_mid c.args.judge.now c.args.tree.now.list c.args.at _ c.prepare_savepoint.new.finders (where_none (c.prepare_savepoint.new.finders
    ≡ c.args.finders.now) c.in-Ok-None.field-0 c.in-Ok-None.field-0-is c.in-Ok-None.ensures.prepared) c.args.at c.requires.within

pub returns-in-Ok-None-clause-finders : goal.returns-in-Ok-None-clause-finders
returns-in-Ok-None-clause-finders c =
    let ws = c.args.tree.now.list in
    finished c.args.judge.now ws c.args.at _ c.prepare_savepoint.new.finders (where_none (c.prepare_savepoint.new.finders
    ≡ c.args.finders.now) c.in-Ok-None.field-0 c.in-Ok-None.field-0-is c.in-Ok-None.ensures.prepared) c.finish.new.finders _ c.roll_to-done.new.self.list
    (other_content ws c.args.at (roll_to c.in-Some.mark) (saved_content (mark_at (workspace_at ws c.args.at).marks c.in-Some.mark)) refl refl)
    c.roll_to-done.result c.roll_to-done.ensures.ok c.roll_to-done.ensures.err c.finish.ensures.settled c.finish.ensures.forgotten
