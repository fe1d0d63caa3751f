use Rattle.std.proofs.Common.{◌≡◌, ◌∙◌, ap, subst, sym}
use Rattle.clr_rows.specs.Contents.{Content}
use Rattle.clr_workspaces.specs.Workspaces.{workspace_at}
use Rattle.clr_judges.specs.KeptContents.{kept_contents}
use Rattle.clr_judges.specs.Fitting.{FitBoth}
use Rattle.clr_judges.proofs.Fits.{fit_kept}
use Rattle.clr_judges.proofs.Kept.{after_resolving, with_content}
use Rattle.clr_judges.proofs.Prepared.{finished, where_none, within_mid}
use Rattle.clr_engine.proofs.commands.resolve.Goals as goal

pub prepare_row-requires-clause-fit : goal.prepare_row-requires-clause-fit
prepare_row-requires-clause-fit c =
    let ws = c.args.tree.now.list in
    subst (FitBoth c.args.judge.now (workspace_at ws c.args.at).current) (sym c.row_to_keep.ensures) (fit_kept c.args.judge.now ws c.requires.served.fit
    c.args.at c.requires.child c.unwrap-above.result c.args.cell c.args.keep)

pub finish-requires : goal.finish-requires
finish-requires c = within_mid c.args.judge.now c.args.tree.now.list c.args.at _ c.prepare_row.new.finders (where_none (c.prepare_row.new.finders
    ≡ c.args.finders.now) c.in-Ok-None.field-0 c.in-Ok-None.field-0-is c.in-Ok-None.ensures.prepared) c.args.at c.requires.within

pub returns-in-Ok-None-clause-finders : goal.returns-in-Ok-None-clause-finders
returns-in-Ok-None-clause-finders c =
    let ws = c.args.tree.now.list in
    finished c.args.judge.now ws c.args.at _ c.prepare_row.new.finders (where_none (c.prepare_row.new.finders ≡ c.args.finders.now) c.in-Ok-None.field-0
    c.in-Ok-None.field-0-is c.in-Ok-None.ensures.prepared) c.finish.new.finders _ c.rebase-done.new.self.list
    (after_resolving ws c.args.at c.unwrap-above.result c.args.cell c.args.keep (sym c.parent.ensures.found ∙ c.unwrap-above.ensures)
    ∙ ap (λ (m : Content). with_content (kept_contents ws) c.args.at m) (sym c.row_to_keep.ensures))
    c.rebase-done.result c.rebase-done.ensures.ok c.rebase-done.ensures.err c.finish.ensures.settled c.finish.ensures.forgotten
