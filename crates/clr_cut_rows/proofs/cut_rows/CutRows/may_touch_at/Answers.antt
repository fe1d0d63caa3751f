use Rattle.clr_reach.specs.Found.{MayTouch}
use Rattle.clr_row_versions.specs.Versions.{version_of}
use Rattle.clr_cut_rows.specs.Searches.{setting_in}
use Rattle.clr_cut_rows.proofs.SearchLemmas.{none_at, one_at}
use Rattle.clr_cut_rows.proofs.cut_rows.CutRows.may_touch_at.Goals as goal

pub returns-in-None : goal.returns-in-None
returns-in-None g c = none_at (MayTouch c.args.self.now.aim c.args.self.now.book.now c.args.rule) (setting_in g.V.RowView.content c.args.self.now)
    (version_of c.args.fresh c.args.cell) c.in-None.ensures

pub returns-in-Some : goal.returns-in-Some
returns-in-Some g c = one_at (MayTouch c.args.self.now.aim c.args.self.now.book.now c.args.rule) (setting_in g.V.RowView.content c.args.self.now)
    (version_of c.args.fresh c.args.cell) c.in-Some.version c.may_touch.result c.in-Some.ensures c.may_touch.ensures
