use Rattle.clr_foot.specs.Scenes.{setting_in}
use Rattle.clr_row_versions.specs.Versions.{row_of}
use Rattle.clr_foot.proofs.ServingLaws.{AreKept}
use Rattle.clr_foot.proofs.scenes.Scene.served_near.Given as goal

-- of the versions so far those are kept that it may serve
abbrev pub invariant-loop-version : goal.invariant-loop-version
invariant-loop-version g l = AreKept (setting_in g.V.RowView.content l.self) l.rule (row_of l.server) l.version-items l.version-index l.list.items
