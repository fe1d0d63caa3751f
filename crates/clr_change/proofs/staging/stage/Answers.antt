use Rattle.std.proofs.Common.{sym, subst, arith}
use Rattle.clr_rows.specs.Contents.{Changes}
use Rattle.clr_change.specs.Edits.{IsFirstEditFault, first_bad_edit}
use Rattle.clr_change.proofs.EditLemmas.{IsStagedTo, none_staged, one_staged, one_refused, all_staged}
use Rattle.clr_change.proofs.staging.stage.Goals as goal

pub loop-at-init : goal.loop-at-init
loop-at-init g c =
    let content = g.V.RowView.content c.args.view.now in
    subst (λ (s : Changes). IsStagedTo c.args.schema.now content c.args.edits.now 0 s) (sym c.new-staged.ensures)
    (none_staged c.args.schema.now content c.args.edits.now)

pub returns-in-Err-clause-refused : goal.returns-in-Err-clause-refused
returns-in-Err-clause-refused g c =
    let content = g.V.RowView.content c.args.view.now in
    let first = first_bad_edit c.args.schema.now content 1 c.args.edits.now in
    subst (λ n. IsFirstEditFault first (n, c.in-Err.fault)) (sym c.number.ensures)
    (one_refused c.args.schema.now content c.args.edits.now c.loop-at.at c.index-edits-at.result c.loop-at.staged c.in-Err.fault (omega arith)
    c.index-edits-at.is c.loop-at.invariant c.in-Err.ensures.refused)

pub loop-at-preserved : goal.loop-at-preserved
loop-at-preserved g c =
    one_staged c.args.schema.now (g.V.RowView.content c.args.view.now) c.args.edits.now c.loop-at.at c.index-edits-at.result c.loop-at.staged c.make.new.staged
    (omega arith) c.index-edits-at.is c.loop-at.invariant c.in_default.ensures.made

pub returns-clause-passed : goal.returns-clause-passed
returns-clause-passed g c = (all_staged c.args.schema.now (g.V.RowView.content c.args.view.now) c.args.edits.now c.loop-at.at c.loop-at.staged (omega arith)
    c.loop-at.invariant).0

pub returns-clause-changes : goal.returns-clause-changes
returns-clause-changes g c = (all_staged c.args.schema.now (g.V.RowView.content c.args.view.now) c.args.edits.now c.loop-at.at c.loop-at.staged (omega arith)
    c.loop-at.invariant).1
