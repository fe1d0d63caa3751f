use Rattle.std.proofs.Common.{take}
use Rattle.clr_reach.specs.Found.{MayTouch}
use Rattle.clr_cut_rows.specs.Searches.{HasAmong, setting_in}
use Rattle.clr_cut_rows.proofs.cut_rows.CutRows.any_may_touch.Given as goal

-- none of the cells so far has such a version
abbrev pub invariant-loop-cell : goal.invariant-loop-cell
invariant-loop-cell g l = ¬ (HasAmong (MayTouch l.self.aim l.self.book.now l.rule) (setting_in g.V.RowView.content l.self) l.fresh (take l.cell-index l.cells))
