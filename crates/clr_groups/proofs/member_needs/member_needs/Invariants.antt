use Rattle.std.proofs.Common.{[]}
use Rattle.clr_row_versions.specs.Gains.{Gains}
use Rattle.clr_foot.specs.Scenes.{setting_in}
use Rattle.clr_groups.specs.MemberNeeds.{IsOfTies, IsPair}
use Rattle.clr_groups.proofs.MemberNeedLists.{OfBelow}
use Rattle.clr_groups.proofs.member_needs.member_needs.Given as goal

-- the needs of the members so far were added
abbrev pub invariant-loop-member : goal.invariant-loop-member
invariant-loop-member g l =
    Gains (IsPair (setting_in g.V.RowView.content l.scene)) (OfBelow (IsOfTies (setting_in g.V.RowView.content l.scene)) l.member) [] l.list.items
