use Rattle.clr_needs.specs.declared.needs.VersionId.{VersionId}
use Rattle.clr_finders.specs.NextCells.{IsBehind}
use Rattle.clr_foot.specs.FirstServers.{IsServerSought}
use Rattle.clr_foot.specs.Scenes.{setting_in}
use Rattle.clr_foot.proofs.scenes.Scene.first_sought.Given as goal

-- each version that serves and is looked for stands behind the cells so far
abbrev pub invariant-loop-tried : goal.invariant-loop-tried
invariant-loop-tried g l = (v : VersionId) → IsServerSought l.sought (setting_in g.V.RowView.content l.self) l.need l.first l.second v → IsBehind l.after v.cell
