use Rattle.std.proofs.Common.{◌≡◌, refl}
use Rattle.std.specs.Prelude.{Ok}
use Rattle.clr_workspaces.specs.Workspaces.{workspace_at}
use Rattle.clr_workspaces.specs.Operations.{roll_all}
use Rattle.clr_judges.proofs.Kept.{other_content}
use Rattle.clr_judges.proofs.Prepared.{finished, where_none, within_mid}
use Rattle.clr_engine.proofs.commands.roll_all.Goals as goal

pub finish-requires : goal.finish-requires
finish-requires c = within_mid c.args.judge.now c.args.tree.now.list c.args.at _ c.prepare_base.new.finders (where_none (c.prepare_base.new.finders
    ≡ c.args.finders.now) c.in-Ok-None.field-0 c.in-Ok-None.field-0-is c.in-Ok-None.ensures.prepared) c.args.at c.requires.within

pub returns-in-Ok-None-clause-finders : goal.returns-in-Ok-None-clause-finders
returns-in-Ok-None-clause-finders c =
    let ws = c.args.tree.now.list in
    finished c.args.judge.now ws c.args.at _ c.prepare_base.new.finders (where_none (c.prepare_base.new.finders ≡ c.args.finders.now) c.in-Ok-None.field-0
    c.in-Ok-None.field-0-is c.in-Ok-None.ensures.prepared) c.finish.new.finders _ c.roll_all.new.self.list
    (other_content ws c.args.at roll_all (workspace_at ws c.args.at).base refl refl)
    (Ok _) c.roll_all.ensures tt c.finish.ensures.settled c.finish.ensures.forgotten
