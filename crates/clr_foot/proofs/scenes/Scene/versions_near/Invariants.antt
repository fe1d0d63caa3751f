use Rattle.clr_foot.specs.Scenes.{setting_in}
use Rattle.clr_foot.proofs.VersionLists.{LookedUpTo}
use Rattle.clr_foot.proofs.scenes.Scene.versions_near.Given as goal

-- the versions of the cells so far that are looked up
abbrev pub invariant-loop-cell : goal.invariant-loop-cell
invariant-loop-cell g l = LookedUpTo (setting_in g.V.RowView.content l.self) l.servers l.self.book.now l.rule l.fresh l.cells l.cell-index l.list.items
