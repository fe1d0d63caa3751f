use Rattle.clr_reach.specs.Found.{MayBeTouched}
use Rattle.clr_cut_rows.specs.Searches.{setting_in}
use Rattle.clr_cut_rows.proofs.SearchLemmas.{none_more, none_of_all, none_to, one_of_all}
use Rattle.clr_cut_rows.proofs.cut_rows.CutRows.any_may_be_touched.Goals as goal

pub loop-cell-init : goal.loop-cell-init
loop-cell-init g c =
    let s = setting_in g.V.RowView.content c.args.self.now in
    none_to (MayBeTouched c.args.self.now.aim s c.args.rule) s c.args.fresh c.args.cells.now

pub loop-cell-preserved : goal.loop-cell-preserved
loop-cell-preserved g c =
    let s = setting_in g.V.RowView.content c.args.self.now in
    none_more (MayBeTouched c.args.self.now.aim s c.args.rule) s c.args.fresh c.args.cells.now c.loop-cell.cell-index _ c.in_ok-may_be_touched_at.field-0
    c.loop-cell-test.true c.if-branch.false c.in_ok-may_be_touched_at.ensures c.loop-cell.invariant

pub returns-then-branch : goal.returns-then-branch
returns-then-branch g c =
    let s = setting_in g.V.RowView.content c.args.self.now in
    one_of_all (MayBeTouched c.args.self.now.aim s c.args.rule) s c.args.fresh c.args.cells.now c.loop-cell.cell-index _ c.in_ok-may_be_touched_at.field-0
    c.loop-cell-test.true c.if-branch.true c.in_ok-may_be_touched_at.ensures

pub returns : goal.returns
returns g c =
    let s = setting_in g.V.RowView.content c.args.self.now in
    none_of_all (MayBeTouched c.args.self.now.aim s c.args.rule) s c.args.fresh c.args.cells.now c.loop-cell.cell-index c.loop-cell-test.false
    c.loop-cell.invariant
