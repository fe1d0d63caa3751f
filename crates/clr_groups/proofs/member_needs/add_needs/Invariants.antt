use Rattle.std.proofs.Common.{take}
use Rattle.clr_row_versions.specs.Gains.{Gains, OfSome}
use Rattle.clr_foot.specs.Scenes.{setting_in}
use Rattle.clr_groups.specs.MemberNeeds.{IsOfNeed, IsPair}
use Rattle.clr_groups.proofs.member_needs.add_needs.Given as goal

-- the needs so far were added
abbrev pub invariant-loop-need : goal.invariant-loop-need
invariant-loop-need g l =
    Gains (IsPair (setting_in g.V.RowView.content l.scene)) (OfSome (IsOfNeed (setting_in g.V.RowView.content l.scene) l.member l.touches)
    (take l.need-index l.needs)) l.fn.list.items l.list.items
