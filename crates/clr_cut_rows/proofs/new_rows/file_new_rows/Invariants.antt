use Rattle.std.proofs.Common.{◌≡◌, take}
use Rattle.std.specs.FinMap as finite
use Rattle.clr_foot.proofs.NewRows.{AreFiledAt}
use Rattle.clr_row_versions.proofs.Searches.{sets_of}
use Rattle.clr_cut_rows.proofs.new_rows.file_new_rows.Given as goal

-- the rows of the cells so far are filed
abbrev pub invariant-loop-cell : goal.invariant-loop-cell
invariant-loop-cell g l = (g.F.RowFinder.pending l.finder ≡ finite.empty) × AreFiledAt l.book (sets_of l.members.sets.items) (take l.cell-index l.cell-items)
    (g.F.RowFinder.settled l.finder)
