use Rattle.std.proofs.Common.{sym, ◌∙◌, subst}
use Rattle.std.proofs.lemmas.Result.{on_ok_weaker}
use Rattle.clr_rows.specs.Contents.{Changes}
use Rattle.clr_change.specs.declared.edits.Edit.TheVariants.{Delete}
use Rattle.clr_change.specs.Edits.{IsMade}
use Rattle.clr_change.proofs.EditLemmas.{delete_made}
use Rattle.clr_change.proofs.staging.delete.Goals as goal

pub returns-clause-made : goal.returns-clause-made
returns-clause-made g c =
    let content = g.V.RowView.content c.args.view.now in
    let made = delete_made c.args.schema.now content c.args.cell c.args.staged.now c.in_ok-judge_cell.ensures (sym c.has_row.ensures
    ∙ c.if-not-has_row.false) in
    on_ok_weaker c.set.result (λ is. subst (λ (s : Changes). IsMade c.args.schema.now content (Delete c.args.cell) c.args.staged.now s) (sym is) made)
    c.set.ensures.ok
