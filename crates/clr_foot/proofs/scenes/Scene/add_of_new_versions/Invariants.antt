use Rattle.std.proofs.Common.{take}
use Rattle.clr_row_versions.specs.Gains.{Gains, OfSome}
use Rattle.clr_needs.specs.Needs.{IsTouched}
use Rattle.clr_foot.specs.Scenes.{setting_in}
use Rattle.clr_foot.specs.Touches.{IsNeedOfNew}
use Rattle.clr_foot.proofs.scenes.Scene.add_of_new_versions.Given as goal

-- the needs of the versions so far were added
abbrev pub invariant-loop-version : goal.invariant-loop-version
invariant-loop-version g l =
    Gains (IsTouched (setting_in g.V.RowView.content l.self)) (OfSome (IsNeedOfNew (setting_in g.V.RowView.content l.self) l.rule)
    (take l.version-index l.fresh)) l.fn.needs.items l.needs.items
