use Rattle.std.proofs.Common.{[], take}
use Rattle.clr_row_versions.specs.Gains.{Gains, OfSome}
use Rattle.clr_foot.specs.Scenes.{setting_in}
use Rattle.clr_foot.specs.Ties.{IsChangedCell}
use Rattle.clr_foot.proofs.scenes.Scene.changed_among.Given as goal

-- those of the cells so far that members change
abbrev pub invariant-loop-cell : goal.invariant-loop-cell
invariant-loop-cell g l =
    Gains (OfSome (IsChangedCell (setting_in g.V.RowView.content l.self)) l.cells)
    (OfSome (IsChangedCell (setting_in g.V.RowView.content l.self)) (take l.cell-index l.cells)) [] l.list.items
