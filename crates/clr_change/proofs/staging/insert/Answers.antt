use Rattle.std.proofs.Common.{sym, ◌∙◌, subst}
use Rattle.std.proofs.lemmas.Result.{on_ok_weaker}
use Rattle.clr_rows.specs.Contents.{Changes}
use Rattle.clr_change.specs.declared.edits.Edit.TheVariants.{Insert}
use Rattle.clr_change.specs.Edits.{IsMade}
use Rattle.clr_change.proofs.EditLemmas.{insert_made, insert_taken}
use Rattle.clr_change.proofs.staging.insert.Goals as goal

pub returns-then-has_row-clause-refused : goal.returns-then-has_row-clause-refused
returns-then-has_row-clause-refused g c = insert_taken c.args.schema.now (g.V.RowView.content c.args.view.now) c.args.cell c.args.staged.now c.args.row.now
    c.in_ok-judge_row.ensures (sym c.has_row.ensures ∙ c.if-has_row.true)

pub returns-clause-made : goal.returns-clause-made
returns-clause-made g c =
    let content = g.V.RowView.content c.args.view.now in
    let made = insert_made c.args.schema.now content c.args.cell c.args.staged.now c.args.row.now c.in_ok-judge_row.ensures (sym c.has_row.ensures
    ∙ c.if-has_row.false) in
    on_ok_weaker c.set.result (λ is. subst (λ (s : Changes). IsMade c.args.schema.now content (Insert c.args.cell c.args.row.now) c.args.staged.now s)
    (sym is) made) c.set.ensures.ok
