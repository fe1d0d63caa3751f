use Rattle.std.proofs.Common.{◌≡◌, ◌++◌, map, filter, ◌∙◌}
use Rattle.std.specs.FinMap as finite
use Rattle.clr_rows.specs.declared.cells.CellId.{CellId}
use Rattle.clr_rows.specs.declared.cells.Change.{Change}
use Rattle.clr_rows.specs.Contents.{conflicts, is_conflict}
use Rattle.clr_engine.proofs.conflicts.conflicting_cells.Goals as goal

pub loop-cell-init : goal.loop-cell-init
unfolding conflicts
loop-cell-init c =
    let all : c.into_iter-cell-iterator.result ≡ finite.entries c.args.changes.now = c.into_iter-cell-iterator.ensures.into_iter_gives
    ∙ c.iter-cell-items.ensures.rest in
    λ i. c.new-cells.ensures.items i ++ map (λ (e : CellId × Change). e.0) (filter (is_conflict c.args.parent.now) (all i))
