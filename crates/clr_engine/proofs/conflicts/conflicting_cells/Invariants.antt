use Rattle.std.proofs.Common.{◌≡◌, ◌++◌, map, filter}
use Rattle.clr_rows.specs.Contents.{conflicts, is_conflict}
use Rattle.clr_engine.proofs.conflicts.conflicting_cells.Given as goal

-- the conflicts so far, with those of the changes that are left, are all of them
abbrev pub invariant-loop-cell : goal.invariant-loop-cell
invariant-loop-cell l = l.cells.items ++ map (λ e. e.0) (filter (is_conflict l.parent) l.cell-iterator) ≡ conflicts l.parent l.changes
