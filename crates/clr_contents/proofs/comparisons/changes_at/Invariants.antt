use Rattle.std.proofs.Common.{◌≡◌, take}
use Rattle.clr_rows.specs.Contents.{no_changes}
use Rattle.clr_contents.specs.Comparing.{set_at}
use Rattle.clr_contents.proofs.comparisons.changes_at.Given as goal

-- the changes at the cells so far are set
abbrev pub invariant-loop-cell : goal.invariant-loop-cell
invariant-loop-cell g l = l.set ≡ set_at (g.B.RowView.content l.before) (g.A.RowView.content l.after) no_changes (take l.cell-index l.cells)
