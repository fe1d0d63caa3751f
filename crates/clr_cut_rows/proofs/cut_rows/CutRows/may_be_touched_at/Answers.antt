use Rattle.clr_row_versions.specs.Versions.{version_of}
use Rattle.clr_reach.specs.Found.{MayBeTouched}
use Rattle.clr_cut_rows.specs.Searches.{setting_in}
use Rattle.clr_cut_rows.proofs.SearchLemmas.{none_at}
use Rattle.clr_cut_rows.proofs.cut_rows.CutRows.may_be_touched_at.Goals as goal

pub returns-in-None : goal.returns-in-None
returns-in-None g c =
    let s = setting_in g.V.RowView.content c.args.self.now in
    none_at (MayBeTouched c.args.self.now.aim s c.args.rule) s (version_of c.args.fresh c.args.cell) c.in-None.ensures
