use Rattle.std.proofs.Common.{take}
use Rattle.clr_row_versions.specs.Gains.{Gains, OfSome}
use Rattle.clr_foot.specs.Scenes.{setting_in}
use Rattle.clr_foot.specs.Ties.{IsTieOf, MayTie}
use Rattle.clr_foot.proofs.scenes.Scene.add_ties.Given as goal

-- the needs of the versions so far were added
abbrev pub invariant-loop-version : goal.invariant-loop-version
invariant-loop-version g l =
    Gains (MayTie l.kind (setting_in g.V.RowView.content l.self) l.position)
    (OfSome (IsTieOf l.kind (setting_in g.V.RowView.content l.self) l.rule l.position) (take l.version-index l.versions)) l.fn.needs.items l.needs.items
