use Rattle.std.proofs.Common.{◌≡◌, take}
use Rattle.clr_deltas.specs.Differences.{swept_at}
use Rattle.clr_deltas.proofs.differences.Differences.sweep_at.Given as goal

-- the cells so far are swept
abbrev pub invariant-loop-cell : goal.invariant-loop-cell
invariant-loop-cell g l = l.self ≡ swept_at (g.V.RowView.content l.below) (take l.cell-index l.cells) l.fn.self
