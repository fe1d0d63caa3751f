use Rattle.std.proofs.Common.{◌++◌, ◌∙◌, ◌+◌, List, ap, sym}
use Rattle.clr_rows.specs.declared.cells.CellId.{CellId}
use Rattle.clr_row_versions.proofs.ChangedCells.{all_left, cells_left, cells_move, cells_read}
use Rattle.clr_row_versions.proofs.member_changes.changed_cells.Goals as goal

pub loop-set-init : goal.loop-set-init
loop-set-init c = ap (λ (cells : List CellId). cells ++ cells_left c.args.sets.now 0) c.new-cells.ensures.items ∙ all_left c.args.sets.now

pub loop-set-preserved : goal.loop-set-preserved
loop-set-preserved c =
    ap (λ (cells : List CellId). cells ++ cells_left c.args.sets.now (c.loop-set.set-index + 1)) c.in_ok-add_cells.ensures.ok
    ∙ cells_move c.args.sets.now c.loop-set.set-index c.set-item.result c.loop-set.cells.items c.loop-set-test.true c.set-item.is
    ∙ c.loop-set.invariant

pub returns : goal.returns
returns c = sym (cells_read c.args.sets.now c.loop-set.set-index c.loop-set.cells.items c.loop-set-test.false) ∙ c.loop-set.invariant
