use Rattle.clr_foot.specs.Scenes.{setting_in}
use Rattle.clr_foot.proofs.VersionLists.{FindsTo}
use Rattle.clr_foot.proofs.scenes.Scene.versions_at.Given as goal

-- the versions of the cells so far
abbrev pub invariant-loop-cell : goal.invariant-loop-cell
invariant-loop-cell g l = FindsTo (setting_in g.V.RowView.content l.self) l.fresh l.cells l.cell-index l.list.items
