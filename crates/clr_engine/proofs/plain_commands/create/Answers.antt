use Rattle.std.proofs.Common.{List, sym, subst, ◌∙◌}
use Rattle.clr_workspaces.specs.Workspaces.{Workspace}
use Rattle.clr_grid.specs.Finders.{AreFinders}
use Rattle.clr_judges.specs.KeptContents.{kept_contents}
use Rattle.clr_engine.proofs.Served.{after_adding, undone, was_ok}
use Rattle.clr_engine.proofs.plain_commands.create.Goals as goal

pub returns-in-Ok-clause-finders : goal.returns-in-Ok-clause-finders
returns-in-Ok-clause-finders c = λ book are.
    let added = was_ok c.push.result (sym c.is_err.ensures.value ∙ c.if-is_err.false) c.push.ensures.ok in
    subst (λ (ws : List Workspace). AreFinders book (kept_contents ws) c.push.new.self) (sym c.in-Ok.ensures.ok)
    (after_adding c.args.tree.now.list c.args.name.now c.args.parent c.args.finders.now c.push.new.self added book are)

pub returns-in-Err-clause-finders : goal.returns-in-Err-clause-finders
returns-in-Err-clause-finders c = λ book are.
    let added = was_ok c.push.result (sym c.is_err.ensures.value ∙ c.if-is_err.false) c.push.ensures.ok in
    subst (λ (ws : List Workspace). AreFinders book (kept_contents ws) c.drop_last.new.self) (sym c.in-Err.ensures.err)
    (subst (AreFinders book (kept_contents c.args.tree.now.list))
    (sym (undone c.args.finders.now c.push.new.self c.drop_last.new.self added c.drop_last.ensures)) are)
