use Rattle.std.proofs.Common.{[]}
use Rattle.clr_row_versions.specs.Gains.{Gains}
use Rattle.clr_foot.specs.Scenes.{setting_in}
use Rattle.clr_foot.specs.Ties.{MayTie}
use Rattle.clr_foot.proofs.TieLaws.{IsTieBelow}
use Rattle.clr_foot.proofs.scenes.Scene.ties_of.Given as goal

-- the needs of the rules so far were added
abbrev pub invariant-loop-rule : goal.invariant-loop-rule
invariant-loop-rule g l =
    Gains (MayTie l.kind (setting_in g.V.RowView.content l.self) l.position) (IsTieBelow (setting_in g.V.RowView.content l.self) l.kind l.position
    l.versions l.rule) [] l.needs.items
