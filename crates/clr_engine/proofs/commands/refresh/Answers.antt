use Rattle.std.proofs.Common.{◌≡◌, ◌<◌, ◌∙◌, ap, subst, sym}
use Rattle.std.specs.Prelude.{IfSome}
use Rattle.clr_rows.specs.Contents.{Changes, taken_over}
use Rattle.clr_workspaces.specs.Workspaces.{workspace_at}
use Rattle.clr_judges.specs.KeptContents.{kept_contents}
use Rattle.clr_judges.proofs.Kept.{after_refreshing, with_content}
use Rattle.clr_judges.proofs.Prepared.{finished, where_none, within_mid}
use Rattle.clr_engine.proofs.commands.refresh.Goals as goal

pub finish-requires : goal.finish-requires
finish-requires c = within_mid c.args.judge.now c.args.tree.now.list c.args.at _ c.prepare_refresh.new.finders (where_none (c.prepare_refresh.new.finders
    ≡ c.args.finders.now) c.in-Ok-None.field-0 c.in-Ok-None.field-0-is c.in-Ok-None.ensures.prepared) c.args.at c.requires.within

pub returns-in-Ok-None-clause-finders : goal.returns-in-Ok-None-clause-finders
returns-in-Ok-None-clause-finders c =
    let ws = c.args.tree.now.list in
    finished c.args.judge.now ws c.args.at _ c.prepare_refresh.new.finders (where_none (c.prepare_refresh.new.finders ≡ c.args.finders.now) c.in-Ok-None.field-0
    c.in-Ok-None.field-0-is c.in-Ok-None.ensures.prepared) c.finish.new.finders _ c.refresh_changes-done.new.self.list
    (after_refreshing ws c.args.at c.unwrap-above.result (sym c.parent.ensures.found
    ∙ c.unwrap-above.ensures) (subst (λ r. IfSome r (λ above. above < c.args.at)) c.unwrap-above.ensures c.parent.ensures.earlier)
    ∙ ap (λ (set : Changes). with_content (kept_contents ws) c.args.at (taken_over (workspace_at ws c.unwrap-above.result).current set))
    (sym c.in-Ok.ensures))
    c.refresh_changes-done.result c.refresh_changes-done.ensures.ok c.refresh_changes-done.ensures.err c.finish.ensures.settled c.finish.ensures.forgotten
