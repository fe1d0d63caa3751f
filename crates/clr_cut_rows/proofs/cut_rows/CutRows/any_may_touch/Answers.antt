use Rattle.clr_reach.specs.Found.{MayTouch}
use Rattle.clr_cut_rows.specs.Searches.{setting_in}
use Rattle.clr_cut_rows.proofs.SearchLemmas.{none_more, none_of_all, none_to, one_of_all}
use Rattle.clr_cut_rows.proofs.cut_rows.CutRows.any_may_touch.Goals as goal

pub loop-cell-init : goal.loop-cell-init
loop-cell-init g c = none_to (MayTouch c.args.self.now.aim c.args.self.now.book.now c.args.rule) (setting_in g.V.RowView.content c.args.self.now)
    c.args.fresh c.args.cells.now

pub loop-cell-preserved : goal.loop-cell-preserved
loop-cell-preserved g c = none_more (MayTouch c.args.self.now.aim c.args.self.now.book.now c.args.rule) (setting_in g.V.RowView.content c.args.self.now)
    c.args.fresh c.args.cells.now c.loop-cell.cell-index _ c.may_touch_at.result c.loop-cell-test.true c.if-may_touch_at.false c.may_touch_at.ensures
    c.loop-cell.invariant

pub returns-then-may_touch_at : goal.returns-then-may_touch_at
returns-then-may_touch_at g c = one_of_all (MayTouch c.args.self.now.aim c.args.self.now.book.now c.args.rule) (setting_in g.V.RowView.content c.args.self.now)
    c.args.fresh c.args.cells.now c.loop-cell.cell-index _ c.may_touch_at.result c.loop-cell-test.true c.if-may_touch_at.true c.may_touch_at.ensures

pub returns : goal.returns
returns g c = none_of_all (MayTouch c.args.self.now.aim c.args.self.now.book.now c.args.rule) (setting_in g.V.RowView.content c.args.self.now)
    c.args.fresh c.args.cells.now c.loop-cell.cell-index c.loop-cell-test.false c.loop-cell.invariant
